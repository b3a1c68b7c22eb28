-- `mesh_check::pair_sides` meets its contract: each way out is what its row has found. Assumes nothing.
use Rattle.std.proofs.Common.{arith}
use Rattle.std.proofs.lemmas.Result.{err_from_is_err_and}
use Rattle.mesh_check.specs.Stages.{can_fill, can_match, can_round, refuse3, refuse4, refuse_sides, pairs, rounded}
use Rattle.mesh_check.proofs.pair_sides.Goals as goal

pub returns-then-high_vertex : goal.returns-then-high_vertex
returns-then-high_vertex c = search refuse3

pub fill_incidence_lists-requires : goal.fill_incidence_lists-requires
fill_incidence_lists-requires c = can_fill _ _ _ _ _ _ c.requires c.high_vertex.ensures (search) (omega arith) c.clear_vertices.ensures

pub returns-then-fill_incidence_lists : goal.returns-then-fill_incidence_lists
returns-then-fill_incidence_lists c = search refuse4

pub match_sides-requires : goal.match_sides-requires
match_sides-requires c =
    can_match _ _ _ _ _ _ c.requires _ c.high_vertex.ensures (search) (omega arith) c.clear_vertices.ensures _
    c.fill_incidence_lists.ensures (search) (omega arith)

pub returns-in_err-match_sides : goal.returns-in_err-match_sides
returns-in_err-match_sides c =
    let p = err_from_is_err_and c.from_residual.result c.from_residual.ensures.1 in
    rw (p.1, p.2) (refuse_sides _ _ _ _ _ _ c.requires _ c.high_vertex.ensures (search) (omega arith) c.clear_vertices.ensures _
    c.fill_incidence_lists.ensures (search) _ _ c.match_sides.ensures _ c.in_err-match_sides.was)

pub returns-then-branch : goal.returns-then-branch
returns-then-branch c =
    pairs _ _ _ _ _ _ c.requires _ c.high_vertex.ensures (search) (omega arith) c.clear_vertices.ensures _
    c.fill_incidence_lists.ensures (search) _ _ c.match_sides.ensures _ c.in_ok-match_sides.was c.if-branch.true

pub check_rings-requires : goal.check_rings-requires
check_rings-requires c =
    can_round _ _ _ _ _ _ c.requires _ c.high_vertex.ensures (search) (omega arith) c.clear_vertices.ensures _
    c.fill_incidence_lists.ensures (search) _ _ c.match_sides.ensures _ c.in_ok-match_sides.was (omega arith)

pub returns : goal.returns
returns c =
    rounded _ _ _ _ _ _ c.requires _ c.high_vertex.ensures (search) (omega arith) c.clear_vertices.ensures _
    c.fill_incidence_lists.ensures (search) _ _ c.match_sides.ensures _ c.in_ok-match_sides.was _ c.check_rings.ensures
