-- `text_format::signed_length` meets its contract. One byte more for a minus. Assumes nothing.
use Rattle.std.proofs.Common.{rules}
use Rattle.text_format.specs.DigitLoops.{minus_counted, with_none}
use Rattle.text_format.proofs.signed_length.Goals as goal

pub returns-then-minus : goal.returns-then-minus
returns-then-minus c = search (minus_counted, rules)

pub returns-else-minus : goal.returns-else-minus
returns-else-minus c = search (with_none, rules)
