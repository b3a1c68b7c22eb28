-- `text_format::fields_length` meets its contract. The loop's invariant, `Counts`: the count is that of the fields so far. Assumes nothing.
use Rattle.text_format.specs.LineLoops.{Counts}
use Rattle.text_format.proofs.fields_length.Given as goal

abbrev pub invariant-loop-x : goal.invariant-loop-x
invariant-loop-x l = Counts l.xs l.at l.x-index
