-- `text_write_listing::vertices_length` meets its contract. The loop's invariant, `Counts`: the count is that of the lines so far. Assumes nothing.
use Rattle.text_write_listing.specs.LoopInvariants.{Counts}
use Rattle.text_write_listing.proofs.vertices_length.Given as goal

abbrev pub invariant-loop-i : goal.invariant-loop-i
invariant-loop-i l = Counts l.bs l.at l.i
