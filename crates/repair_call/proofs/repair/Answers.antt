-- `repair_call::repair` meets its contract: each way out is a law of the definition. Assumes nothing.
use Rattle.std.proofs.Common.{arith, Err}
use Rattle.std.proofs.lemmas.Result.{err_from_is_err_and}
use Rattle.definitions.specs.Answers.{refused, numbered}
use Rattle.lent_slices.specs.Lengths.{row_in}
use Rattle.lent_slices.specs.MapLengths.{map_lengths}
use Rattle.mesh_answer.specs.Answer.{to_answer}
use Rattle.mesh_answer.specs.Sizes.{size_told, size_some}
use Rattle.repair_call.specs.CallOutcomes.{Gives, gives_early, gives_run}
use Rattle.repair_call.proofs.repair.Goals as goal

pub returns-in_err-check_sizes : goal.returns-in_err-check_sizes
returns-in_err-check_sizes c =
    let a = c.args in
    let m = a.mesh.now in
    let size = c.in_err-check_sizes.field-0.0 in
    let p = err_from_is_err_and c.from_residual.result c.from_residual.ensures.1 in
    let g : Gives m.n m.outer m.triangles.now a.weights.now a.coordinates.now a.scratch.now
    (refused (numbered (row_in (Err size)))) a.weights.now a.coordinates.now a.scratch.now =
    gives_early _ _ _ _ _ _ _ c.in_err-check_sizes.ensures (size_some size) in
    record { answer = rw (p.1, p.2, size_told size) g.0; weights = g.1.0; coordinates = g.1.1.0; scratch = g.1.1.1 }

pub run_repair-answer-requires : goal.run_repair-answer-requires
run_repair-answer-requires c = map_lengths _ _ _ _ _ 0 c.in_ok-check_sizes.ensures (search)

pub returns : goal.returns
returns c =
    let a = c.args in
    let m = a.mesh.now in
    let ran = c.run_repair-answer in
    let g : Gives m.n m.outer m.triangles.now a.weights.now a.coordinates.now a.scratch.now
    (to_answer ran.result) ran.new.weights ran.new.coordinates c.clear.new.s =
    gives_run _ _ _ _ _ _ _ _ _ ran.ensures ran.new.scratch _ (omega arith) c.clear.ensures in
    record { answer = g.0; weights = g.1.0; coordinates = g.1.1.0; scratch = g.1.1.1 }
