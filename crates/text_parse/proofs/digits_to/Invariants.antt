-- `text_parse::digits_to` meets its contract. The loop's invariant, `Scanned`: scanning the bytes that are left, from the number so far, gives what scanning
-- them all gives. Assumes nothing.
use Rattle.text_parse.specs.ByteLoops.{Scanned}
use Rattle.text_parse.proofs.digits_to.Given as goal

abbrev pub invariant-loop-b : goal.invariant-loop-b
invariant-loop-b l = Scanned l.s l.most l.v l.b-index
