-- `snap_call::write_points` meets its contract. The invariant: the coordinates of the points behind are written, and belong before those of the rest.
-- Assumes nothing.
use Rattle.std.proofs.Common.{rules}
use Rattle.snap_call.specs.LoopLaws.{written_none, x_passes, y_passes, written_more, written_all}
use Rattle.snap_call.proofs.write_points.Goals as goal

pub loop-i-init : goal.loop-i-init
loop-i-init c = search written_none

pub write_point-requires : goal.write_point-requires
write_point-requires c = search (x_passes, y_passes, rules)

pub loop-i-preserved : goal.loop-i-preserved
loop-i-preserved c = search written_more

pub returns : goal.returns
returns c = search written_all
