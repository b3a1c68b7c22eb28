-- `repair_update::add_to_range` meets its contract. The loop's invariant: the entries passed have moved, and the numbers are no larger than so many additions
-- make them. Assumes nothing.
use Rattle.std.proofs.Common.{to_z-of_z}
use Rattle.repair_update.specs.RangeLoop.{range_none, range-next, range_small}
use Rattle.repair_update.specs.Signed.{stored_sum}
use Rattle.repair_update.proofs.add_to_range.Goals as goal

pub loop-p-init : goal.loop-p-init
loop-p-init c = rw (to_z-of_z c.ranges.x) (range_none _ _ _ _ _ _ c.requires)

pub loop-p-preserved : goal.loop-p-preserved
loop-p-preserved c = search (range-next, range_small, stored_sum)
