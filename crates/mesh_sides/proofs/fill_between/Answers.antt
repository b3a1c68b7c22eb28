-- `mesh_sides::fill_between` meets its contract. The loop's invariant: the triangles from t on are in the lists. Assumes nothing.
use Rattle.std.proofs.Common.{arith}
use Rattle.mesh_sides.specs.LoopInvariants.{filled_start, between_pushing, between_twice, between_next}
use Rattle.mesh_sides.proofs.fill_between.Goals as goal

pub loop-t-init : goal.loop-t-init
loop-t-init c = (search filled_start, omega arith)

pub push_triangle-requires : goal.push_triangle-requires
push_triangle-requires c = search between_pushing

pub returns-then-push_triangle : goal.returns-then-push_triangle
returns-then-push_triangle c =
    between_twice _ _ _ _ _ c.requires _ _ _ c.from-moved.ensures (search) (omega arith) c.loop-t.invariant.0 _ _ c.push_triangle.ensures (search) _ _

pub loop-t-preserved : goal.loop-t-preserved
loop-t-preserved c = (search between_next, omega arith)
