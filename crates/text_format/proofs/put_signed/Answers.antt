-- `text_format::put_signed` meets its contract. The minus at the front, and the digits into the rest. Assumes nothing.
use Rattle.std.proofs.Common.{ℕ, length, ap, arith}
use Rattle.text_model.specs.Writing.{wrote_then}
use Rattle.text_format.specs.DigitLoops.{with_minus, with_none, none_room}
use Rattle.text_format.proofs.put_signed.Goals as goal

pub put_byte-a-requires : goal.put_byte-a-requires
put_byte-a-requires c = omega (arith, ap {B = ℕ} length (with_minus c.args.minus c.args.m (search)))

pub put_natural-requires : goal.put_natural-requires
put_natural-requires c = omega (arith, ap {B = ℕ} length (with_minus c.args.minus c.args.m (search)))

pub returns-then-minus : goal.returns-then-minus
returns-then-minus c = search (wrote_then, with_minus)

pub put_natural-requires-2 : goal.put_natural-requires-2
put_natural-requires-2 c = search none_room

pub returns : goal.returns
returns c = search with_none
