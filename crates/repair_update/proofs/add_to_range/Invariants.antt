-- `repair_update::add_to_range` meets its contract. The loop's invariant: the entries passed have moved, and the numbers are no larger than so many additions
-- make them. Assumes nothing.
use Rattle.repair_update.specs.RangeLoop.{RangeDone}
use Rattle.repair_update.proofs.add_to_range.Given as goal

abbrev pub invariant-loop-p : goal.invariant-loop-p
invariant-loop-p l = RangeDone l.scratch l.initial.coordinates l.a l.end l.c l.x l.coordinates l.p
