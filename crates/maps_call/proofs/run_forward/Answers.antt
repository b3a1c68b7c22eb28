-- `maps_call::run_forward` meets its contract: each way out is a law of the definition. Assumes nothing.
use Rattle.std.proofs.Common.{refl}
use Rattle.definitions.specs.Answers.{done, refused, numbered}
use Rattle.std.proofs.lemmas.Result.{err_from_is_err_and}
use Rattle.mesh_answer.specs.Answer.{to_refusal}
use Rattle.labels_call.specs.Labelling.{labelled_accepted}
use Rattle.maps_call.specs.CallOutcomes.{Forwards, forward-mesh, forward-9, forward-done}
use Rattle.maps_call.proofs.run_forward.Goals as goal

pub returns-in_err-label_mesh : goal.returns-in_err-label_mesh
returns-in_err-label_mesh c =
    let a = c.args in
    let m = a.mesh.now in
    let p = err_from_is_err_and c.from_residual.result c.from_residual.ensures.1 in
    let g : Forwards m.n m.outer m.triangles.now a.weights.now a.coordinates.now a.scratch.now
    (refused (to_refusal c.in_err-label_mesh.field-0.0)) a.coordinates.now =
    forward-mesh _ _ _ _ _ _ c.requires _ _ c.in_err-label_mesh.ensures refl in
    record { answer = rw (p.1, p.2) g.0; coordinates = g.1 }

pub returns-then-past_limit : goal.returns-then-past_limit
returns-then-past_limit c =
    let a = c.args in
    let m = a.mesh.now in
    let A = labelled_accepted _ _ _ c.label_mesh.new.scratch c.label_mesh.result c.in_ok-label_mesh.was c.label_mesh.ensures in
    let g : Forwards m.n m.outer m.triangles.now a.weights.now a.coordinates.now a.scratch.now (refused (numbered 9)) a.coordinates.now =
    forward-9 _ _ _ _ _ _ c.requires A.rows (cc) in
    record { answer = g.0; coordinates = g.1 }

pub returns : goal.returns
returns c =
    let a = c.args in
    let m = a.mesh.now in
    let A = labelled_accepted _ _ _ c.label_mesh.new.scratch c.label_mesh.result c.in_ok-label_mesh.was c.label_mesh.ensures in
    let g : Forwards m.n m.outer m.triangles.now a.weights.now a.coordinates.now a.scratch.now (done tt) c.write_coordinates.new.coordinates =
    forward-done _ _ _ _ _ _ c.requires A.rows (cc) _ (c.write_coordinates.ensures _ _ A.peeled) in
    record { answer = g.0; coordinates = g.1 }
