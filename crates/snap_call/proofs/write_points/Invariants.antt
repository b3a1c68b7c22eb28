-- `snap_call::write_points` meets its contract. The invariant: the coordinates of the points behind are written, and belong before those of the rest.
-- Assumes nothing.
use Rattle.snap_model.specs.Points.{Filled}
use Rattle.snap_call.proofs.write_points.Given as goal

abbrev pub invariant-loop-i : goal.invariant-loop-i
invariant-loop-i l = Filled l.r l.shares l.i l.coordinates
