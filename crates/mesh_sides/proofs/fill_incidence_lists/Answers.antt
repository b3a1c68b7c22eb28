-- `mesh_sides::fill_incidence_lists` meets its contract: the triangles behind the outer one, those before it, and the outer one. Assumes nothing.
use Rattle.std.proofs.Common.{arith}
use Rattle.mesh_sides.specs.LoopInvariants.{can_fill_behind, can_fill-before, outer_pushing, outer_pushed}
use Rattle.mesh_sides.proofs.fill_incidence_lists.Goals as goal

pub fill_between-requires : goal.fill_between-requires
fill_between-requires c = can_fill_behind _ _ _ c.requires

pub fill_between-requires-2 : goal.fill_between-requires-2
fill_between-requires-2 c = search can_fill-before

pub push_triangle-requires : goal.push_triangle-requires
push_triangle-requires c = outer_pushing _ _ _ c.requires _ _ c.fill_between.ensures (search) _ _ c.fill_between-2.ensures (search)

pub returns : goal.returns
returns c =
    outer_pushed _ _ _ c.requires _ _ c.fill_between.ensures (search) _ _ c.fill_between-2.ensures (search) _ _ (omega arith)
    c.push_triangle.ensures
