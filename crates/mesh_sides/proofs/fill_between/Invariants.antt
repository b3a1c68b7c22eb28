-- `mesh_sides::fill_between` meets its contract. The loop's invariant: the triangles from t on are in the lists. Assumes nothing.
use Rattle.std.proofs.Common.{◌*◌, ◌≤◌}
use Rattle.definitions.specs.Mesh.{fronted}
use Rattle.mesh_sides.specs.LoopInvariants.{Filled}
use Rattle.mesh_sides.proofs.fill_between.Given as goal

abbrev pub invariant-loop-t : goal.invariant-loop-t
invariant-loop-t l = Filled (fronted l.outer l.triangles) l.initial.s l.s (3 * l.high) (3 * l.t) × (l.low ≤ l.t)
