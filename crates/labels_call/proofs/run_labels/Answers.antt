-- `labels_call::run_labels` meets its contract: each way out is a law of the definition. Assumes nothing.
use Rattle.std.proofs.Common.{arith, refl}
use Rattle.std.proofs.lemmas.Result.{err_from_is_err_and}
use Rattle.definitions.specs.Answers.{done, refused}
use Rattle.mesh_answer.specs.Answer.{to_refusal}
use Rattle.mesh_check.specs.Stages.{has_lent}
use Rattle.labels_call.specs.Labelling.{labelled_accepted, can_write, written}
use Rattle.labels_call.specs.CallOutcomes.{Runs, labels_long, runs-refused, runs_written}
use Rattle.labels_call.proofs.run_labels.Goals as goal

pub label_mesh-requires : goal.label_mesh-requires
label_mesh-requires c = has_lent _ _ _ _ c.requires

pub returns-in_err-label_mesh : goal.returns-in_err-label_mesh
returns-in_err-label_mesh c =
    let a = c.args in
    let m = a.mesh.now in
    let p = err_from_is_err_and c.from_residual.result c.from_residual.ensures.1 in
    let r : Runs m.n m.outer m.triangles.now a.labels.now a.scratch.now (refused (to_refusal c.in_err-label_mesh.field-0.0)) a.labels.now =
    runs-refused _ _ _ _ _ c.requires _ _ c.in_err-label_mesh.ensures refl in
    record { answer = rw (p.1, p.2) r.0; labels = r.1 }

pub write_labels-requires : goal.write_labels-requires
write_labels-requires c =
    let A = labelled_accepted _ _ _ c.label_mesh.new.scratch c.label_mesh.result c.in_ok-label_mesh.was c.label_mesh.ensures in
    can_write _ _ _ A.peeled c.args.labels.now (labels_long _ _ c.args.labels.now _ c.requires)

pub returns : goal.returns
returns c =
    let a = c.args in
    let m = a.mesh.now in
    let A = labelled_accepted _ _ _ c.label_mesh.new.scratch c.label_mesh.result c.in_ok-label_mesh.was c.label_mesh.ensures in
    let l = labels_long _ _ a.labels.now _ c.requires in
    let r : Runs m.n m.outer m.triangles.now a.labels.now a.scratch.now (done tt) c.write_labels.new.labels =
    runs_written _ _ _ _ _ c.requires A.rows _ (written _ _ _ A.peeled _ (omega arith) c.write_labels.ensures) in
    record { answer = r.0; labels = r.1 }
