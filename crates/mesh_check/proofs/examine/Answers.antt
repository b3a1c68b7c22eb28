-- `mesh_check::examine` meets its contract: each way out is what its row has found. Assumes nothing.
use Rattle.std.proofs.Common.{arith, refl, Err}
use Rattle.std.proofs.lemmas.Result.{err_from_is_err_and}
use Rattle.mesh_check.specs.Stages.{refuse21, walks, refuse8, accept, said_refused}
use Rattle.mesh_check.proofs.examine.Goals as goal

pub returns-then-triangles-mesh : goal.returns-then-triangles-mesh
returns-then-triangles-mesh c = search refuse21

pub returns-in_err-pair_sides : goal.returns-in_err-pair_sides
returns-in_err-pair_sides c =
    let p = err_from_is_err_and c.from_residual.result c.from_residual.ensures.1 in
    rw (p.1, p.2) (said_refused _ _ _ _ c.requires (omega arith) c.pair_sides.new.scratch (Err c.in_err-pair_sides.field-0.0)
    c.in_err-pair_sides.ensures _ refl)

pub disconnected-requires : goal.disconnected-requires
disconnected-requires c =
    walks _ _ _ _ c.requires (omega arith) _ _ c.pair_sides.ensures c.in_ok-pair_sides.was (omega arith)

pub returns-then-disconnected : goal.returns-then-disconnected
returns-then-disconnected c =
    refuse8 _ _ _ _ c.requires (omega arith) _ _ c.pair_sides.ensures c.in_ok-pair_sides.was _ _ c.disconnected.ensures
    c.if-disconnected.true

pub returns : goal.returns
returns c =
    accept _ _ _ _ c.requires (omega arith) _ _ c.pair_sides.ensures c.in_ok-pair_sides.was _ _ c.disconnected.ensures
    c.if-disconnected.false
