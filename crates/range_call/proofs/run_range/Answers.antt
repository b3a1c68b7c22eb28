-- `range_call::run_range` meets its contract: each way out is a law of the definition. Assumes nothing.
use Rattle.std.proofs.Common.{arith, refl}
use Rattle.definitions.specs.Answers.{done, refused, numbered}
use Rattle.definitions.specs.Mesh.{fronted}
use Rattle.std.proofs.lemmas.Result.{err_from_is_err_and}
use Rattle.mesh_answer.specs.Answer.{to_refusal}
use Rattle.mesh_check.specs.Stages.{has_lent}
use Rattle.labels_call.specs.Labelling.{labelled_accepted}
use Rattle.range_call.specs.CallOutcomes.{Runs, same_number, both_accepted, runs-21, runs-29, runs-mesh, runs-9, runs_done}
use Rattle.range_call.proofs.run_range.Goals as goal

pub returns-then-mesh : goal.returns-then-mesh
returns-then-mesh c =
    let a = c.args in
    let m = a.mesh.now in
    let g : Runs m.n m.outer m.triangles.now a.lows.now a.highs.now a.lowest.now a.highest.now a.scratch.now
    (refused (numbered 21)) a.lowest.now a.highest.now =
    runs-21 _ _ _ _ _ _ _ _ c.requires (omega arith) in
    record { answer = g.0; lowest = g.1.0; highest = g.1.1 }

pub low_above_high-requires : goal.low_above_high-requires
low_above_high-requires c = same_number _ _ _ _ _ _ _ c.requires

pub returns-then-low_above_high : goal.returns-then-low_above_high
returns-then-low_above_high c =
    let a = c.args in
    let m = a.mesh.now in
    let g : Runs m.n m.outer m.triangles.now a.lows.now a.highs.now a.lowest.now a.highest.now a.scratch.now
    (refused (numbered 29)) a.lowest.now a.highest.now =
    runs-29 _ _ _ _ _ _ _ _ c.requires (omega arith) (cc) in
    record { answer = g.0; lowest = g.1.0; highest = g.1.1 }

pub label_mesh-requires : goal.label_mesh-requires
label_mesh-requires c = has_lent _ _ _ _ c.requires.fits

pub returns-in_err-label_mesh : goal.returns-in_err-label_mesh
returns-in_err-label_mesh c =
    let a = c.args in
    let m = a.mesh.now in
    let p = err_from_is_err_and c.from_residual.result c.from_residual.ensures.1 in
    let g : Runs m.n m.outer m.triangles.now a.lows.now a.highs.now a.lowest.now a.highest.now a.scratch.now
    (refused (to_refusal c.in_err-label_mesh.field-0.0)) a.lowest.now a.highest.now =
    runs-mesh _ _ _ _ _ _ _ _ c.requires (omega arith) (cc) _ _ c.in_err-label_mesh.ensures refl in
    record { answer = rw (p.1, p.2) g.0; lowest = g.1.0; highest = g.1.1 }

pub returns-then-either_past_limit : goal.returns-then-either_past_limit
returns-then-either_past_limit c =
    let a = c.args in
    let m = a.mesh.now in
    let A = labelled_accepted _ _ _ c.label_mesh.new.scratch c.label_mesh.result c.in_ok-label_mesh.was c.label_mesh.ensures in
    let g : Runs m.n m.outer m.triangles.now a.lows.now a.highs.now a.lowest.now a.highest.now a.scratch.now
    (refused (numbered 9)) a.lowest.now a.highest.now =
    runs-9 _ _ _ _ _ _ _ _ c.requires (omega arith) (cc) A.rows (cc) in
    record { answer = g.0; lowest = g.1.0; highest = g.1.1 }

pub write_both-requires : goal.write_both-requires
write_both-requires c =
    let A = labelled_accepted _ _ _ c.label_mesh.new.scratch c.label_mesh.result c.in_ok-label_mesh.was c.label_mesh.ensures in
    let B = both_accepted _ _ _ _ _ _ _ c.requires _ c.either_past_limit.ensures (search) in
    ((fronted c.args.mesh.now.outer c.args.mesh.now.triangles.now, _, A.peeled), B.0, B.1, B.2, B.3)

pub returns : goal.returns
returns c =
    let a = c.args in
    let m = a.mesh.now in
    let A = labelled_accepted _ _ _ c.label_mesh.new.scratch c.label_mesh.result c.in_ok-label_mesh.was c.label_mesh.ensures in
    let g : Runs m.n m.outer m.triangles.now a.lows.now a.highs.now a.lowest.now a.highest.now a.scratch.now
    (done tt) c.write_both.new.lowest c.write_both.new.highest =
    runs_done _ _ _ _ _ _ _ _ c.requires (omega arith) (cc) A.rows (cc) _ _ (c.write_both.ensures.lowest _ _ A.peeled)
    (c.write_both.ensures.highest _ _ A.peeled) in
    record { answer = g.0; lowest = g.1.0; highest = g.1.1 }
