-- `text_parse::read_weight` meets its contract, by what follows a minus, or by the whole field; 0 after a minus is no weight. Assumes nothing.
use Rattle.std.proofs.Common.{sym, to_z-of_z}
use Rattle.text_model.specs.Scan.{within_most}
use Rattle.text_parse.specs.NumberSteps.{plus_none, plus_is, minus-none, minus_zero, minus_is, opposite}
use Rattle.text_parse.proofs.read_weight.Goals as goal

pub returns-in_err-k-in-Some : goal.returns-in_err-k-in-Some
returns-in_err-k-in-Some c =
    rw c.from_residual.ensures
    (minus-none _ _ c.in-Some.ensures.cases.0 c.in-Some.ensures.cases.1 c.in_err-k-in-Some.ensures)

pub returns-in_err-k-in-None : goal.returns-in_err-k-in-None
returns-in_err-k-in-None c =
    rw c.from_residual-in_err-k-in-None.ensures (plus_none _ c.in-None.ensures.cases c.in_err-k-in-None.ensures)

pub returns-then-k-eq0 : goal.returns-then-k-eq0
returns-then-k-eq0 c = minus_zero _ _ c.in-Some.ensures.cases.0 c.in-Some.ensures.cases.1 _ c.in_ok-k-in-Some.ensures c.if-k-eq0.true

pub returns-else-k-eq0 : goal.returns-else-k-eq0
returns-else-k-eq0 c =
    minus_is _ _ c.in-Some.ensures.cases.0 c.in-Some.ensures.cases.1 _ _ c.in_ok-k-in-Some.ensures c.if-k-eq0.false
    (opposite _ _ c.from.ensures (within_most 2147483648 c.in-Some.digits.now _ (sym c.in_ok-k-in-Some.ensures)))

pub returns-in_ok-k-in-None : goal.returns-in_ok-k-in-None
returns-in_ok-k-in-None c = plus_is _ c.in-None.ensures.cases _ _ c.in_ok-k-in-None.ensures (search to_z-of_z)
