-- `maps_call::forward` meets its contract: each way out is a law of the definition. Assumes nothing.
use Rattle.std.proofs.Common.{arith}
use Rattle.std.proofs.lemmas.Result.{err_from_is_err_and}
use Rattle.lent_slices.specs.MapLengths.{map_lengths}
use Rattle.mesh_answer.specs.Sizes.{size_told, size_some}
use Rattle.maps_call.specs.CallOutcomes.{forward_early, forward_scratch}
use Rattle.maps_call.proofs.forward.Goals as goal

pub returns-in_err-check_sizes : goal.returns-in_err-check_sizes
returns-in_err-check_sizes c =
    let a = c.args in
    let m = a.mesh.now in
    let size = c.in_err-check_sizes.field-0.0 in
    let p = err_from_is_err_and c.from_residual.result c.from_residual.ensures.1 in
    let g = forward_early m.n m.outer m.triangles.now a.weights.now a.coordinates.now a.scratch.now _ c.in_err-check_sizes.ensures (size_some size) in
    record { answer = rw (p.1, p.2, size_told size) g.0; coordinates = g.1.0; scratch = g.1.1 }

pub run_forward-answer-requires : goal.run_forward-answer-requires
run_forward-answer-requires c = map_lengths _ _ _ _ _ 0 c.in_ok-check_sizes.ensures (search)

pub returns : goal.returns
returns c =
    let ran = c.run_forward-answer in
    record {
      answer = ran.ensures.answer;
      coordinates = ran.ensures.coordinates;
      scratch =
          forward_scratch _ _ _ _ _ _ (map_lengths _ _ _ _ _ 0 c.in_ok-check_sizes.ensures (search)) ran.new.scratch _ (omega arith) c.clear.ensures;
    }
