-- `maps_call::run_backward` meets its contract: each way out is a law of the definition. Assumes nothing.
use Rattle.definitions.specs.Answers.{done, refused, numbered}
use Rattle.std.proofs.Common.{arith, refl, sym, ◌∙◌}
use Rattle.definitions.specs.Mesh.{fronted}
use Rattle.definitions.specs.Labels.{labels}
use Rattle.maps_backward.specs.Weights.{LabelledDrawing, length-backward}
use Rattle.std.proofs.lemmas.Result.{err_from_is_err_and}
use Rattle.mesh_answer.specs.Answer.{to_refusal}
use Rattle.labels_call.specs.Labelling.{labelled_accepted}
use Rattle.maps_call.specs.CallOutcomes.{Backwards, backward-mesh, backward-10, backward-11, backward-12, backward-9, backward-done}
use Rattle.maps_call.proofs.run_backward.Goals as goal

pub returns-in_err-label_mesh : goal.returns-in_err-label_mesh
returns-in_err-label_mesh c =
    let a = c.args in
    let m = a.mesh.now in
    let p = err_from_is_err_and c.from_residual.result c.from_residual.ensures.1 in
    let g : Backwards m.n m.outer m.triangles.now a.coordinates.now a.weights.now a.scratch.now
    (refused (to_refusal c.in_err-label_mesh.field-0.0)) a.weights.now =
    backward-mesh _ _ _ _ _ _ c.requires _ _ c.in_err-label_mesh.ensures refl in
    record { answer = rw (p.1, p.2) g.0; weights = g.1 }

pub returns-then-out_of_range : goal.returns-then-out_of_range
returns-then-out_of_range c =
    let a = c.args in
    let m = a.mesh.now in
    let A = labelled_accepted _ _ _ c.label_mesh.new.scratch c.label_mesh.result c.in_ok-label_mesh.was c.label_mesh.ensures in
    let g : Backwards m.n m.outer m.triangles.now a.coordinates.now a.weights.now a.scratch.now (refused (numbered 10)) a.weights.now =
    backward-10 _ _ _ _ _ _ c.requires A.rows (cc) in
    record { answer = g.0; weights = g.1 }

pub returns-then-off_corner : goal.returns-then-off_corner
returns-then-off_corner c =
    let a = c.args in
    let m = a.mesh.now in
    let A = labelled_accepted _ _ _ c.label_mesh.new.scratch c.label_mesh.result c.in_ok-label_mesh.was c.label_mesh.ensures in
    let g : Backwards m.n m.outer m.triangles.now a.coordinates.now a.weights.now a.scratch.now (refused (numbered 11)) a.weights.now =
    backward-11 _ _ _ _ _ _ c.requires A.rows (cc) (sym (c.off_corner.ensures _ _ _ A.peeled.labelled) ∙ c.if-off_corner.true) in
    record { answer = g.0; weights = g.1 }

pub returns-then-off_sum : goal.returns-then-off_sum
returns-then-off_sum c =
    let a = c.args in
    let m = a.mesh.now in
    let A = labelled_accepted _ _ _ c.label_mesh.new.scratch c.label_mesh.result c.in_ok-label_mesh.was c.label_mesh.ensures in
    let g : Backwards m.n m.outer m.triangles.now a.coordinates.now a.weights.now a.scratch.now (refused (numbered 12)) a.weights.now =
    backward-12 _ _ _ _ _ _ c.requires A.rows (cc) (sym (c.off_corner.ensures _ _ _ A.peeled.labelled) ∙ c.if-off_corner.false)
    (sym (c.off_sum.ensures _ _ A.peeled.labelled) ∙ c.if-off_sum.true) in
    record { answer = g.0; weights = g.1 }

pub returns-then-weights_past_limit : goal.returns-then-weights_past_limit
returns-then-weights_past_limit c =
    let a = c.args in
    let m = a.mesh.now in
    let A = labelled_accepted _ _ _ c.label_mesh.new.scratch c.label_mesh.result c.in_ok-label_mesh.was c.label_mesh.ensures in
    let ten = sym c.out_of_range.ensures ∙ c.if-out_of_range.false in
    let eleven = sym (c.off_corner.ensures _ _ _ A.peeled.labelled) ∙ c.if-off_corner.false in
    let twelve = sym (c.off_sum.ensures _ _ A.peeled.labelled) ∙ c.if-off_sum.false in
    let drawing : LabelledDrawing _ _ _ _ _ = record { peeled = A.peeled; corners = eleven; sums = twelve } in
    let nine = c.weights_past_limit.ensures.past _ _ drawing in
    let g : Backwards m.n m.outer m.triangles.now a.coordinates.now a.weights.now a.scratch.now (refused (numbered 9)) a.weights.now =
    backward-9 _ _ _ _ _ _ c.requires A.rows ten eleven twelve (sym nine ∙ c.if-weights_past_limit.true) in
    record { answer = g.0; weights = g.1 }

pub returns : goal.returns
returns c =
    let a = c.args in
    let m = a.mesh.now in
    let A = labelled_accepted _ _ _ c.label_mesh.new.scratch c.label_mesh.result c.in_ok-label_mesh.was c.label_mesh.ensures in
    let ten = sym c.out_of_range.ensures ∙ c.if-out_of_range.false in
    let eleven = sym (c.off_corner.ensures _ _ _ A.peeled.labelled) ∙ c.if-off_corner.false in
    let twelve = sym (c.off_sum.ensures _ _ A.peeled.labelled) ∙ c.if-off_sum.false in
    let drawing : LabelledDrawing _ _ _ _ _ = record { peeled = A.peeled; corners = eleven; sums = twelve } in
    let nine = c.weights_past_limit.ensures.past _ _ drawing in
    let mesh = fronted m.outer m.triangles.now in
    let long = length-backward mesh (labels m.n mesh) c.args.coordinates.now in
    let g : Backwards m.n m.outer m.triangles.now a.coordinates.now a.weights.now a.scratch.now (done tt) c.write_weights.new.weights =
    backward-done _ _ _ _ _ _ c.requires A.rows ten eleven twelve (sym nine ∙ c.if-weights_past_limit.false) _
    (c.write_weights.ensures _ (c.weights_past_limit.ensures.kept c.if-weights_past_limit.false _ _ drawing) (omega (arith, long))) in
    record { answer = g.0; weights = g.1 }
