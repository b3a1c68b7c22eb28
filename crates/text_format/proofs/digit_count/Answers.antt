-- `text_format::digit_count` meets its contract: one more than the logarithm, and 1 for 0. Assumes nothing.
use Rattle.std.proofs.Common.{sym, arith}
use Rattle.text_model.specs.Numbers.{count-one}
use Rattle.text_format.specs.DigitLoops.{count-log}
use Rattle.text_format.proofs.digit_count.Goals as goal

pub returns-in-Some : goal.returns-in-Some
returns-in-Some c =
    let e = c.in-Some.ensures in
    let l = count-log c.in-Some.k c.args.n e.power_le e.next_power_gt in
    (omega arith, omega (arith, e.bound))

pub returns-in-None : goal.returns-in-None
returns-in-None c = (sym (count-one c.args.n (omega (arith, c.in-None.ensures.none))), omega arith)
