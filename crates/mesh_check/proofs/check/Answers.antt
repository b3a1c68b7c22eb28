-- `mesh_check::check` meets its contract: each way out is a law of the definition. Assumes nothing.
use Rattle.std.proofs.Common.{[], arith, Err}
use Rattle.std.proofs.lemmas.Result.{err_from_is_err_and}
use Rattle.definitions.specs.Answers.{numbered, refused}
use Rattle.lent_slices.specs.Lengths.{row_in}
use Rattle.lent_slices.specs.Calls.{Fits, has_fits}
use Rattle.mesh_answer.specs.Answer.{to_answer}
use Rattle.mesh_answer.specs.Sizes.{size_told, size_some}
use Rattle.mesh_check.specs.Stages.{has_lent}
use Rattle.mesh_check.specs.CallOutcomes.{Gives, gives_early, gives_examined}
use Rattle.mesh_check.proofs.check.Goals as goal

pub returns-in_err-check_sizes : goal.returns-in_err-check_sizes
returns-in_err-check_sizes c =
    let m = c.args.mesh.now in
    let size = c.in_err-check_sizes.field-0.0 in
    let p = err_from_is_err_and c.from_residual.result c.from_residual.ensures.1 in
    let g : Gives m.n m.outer m.triangles.now c.args.scratch.now (refused (numbered (row_in (Err size)))) c.args.scratch.now =
    gives_early _ _ _ _ _ c.in_err-check_sizes.ensures (size_some size) in
    record { answer = rw (p.1, p.2, size_told size) g.0; scratch = g.1 }

pub examine-answer-requires : goal.examine-answer-requires
examine-answer-requires c = has_lent _ _ _ _ (has_fits _ c.args.mesh.now.triangles.now c.args.scratch.now [] 0 c.in_ok-check_sizes.ensures (search))

pub returns : goal.returns
returns c =
    let m = c.args.mesh.now in
    let fits : Fits m.n m.triangles.now c.args.scratch.now [] = has_fits _ _ _ _ 0 c.in_ok-check_sizes.ensures (search) in
    let g : Gives m.n m.outer m.triangles.now c.args.scratch.now (to_answer c.examine-answer.result) c.clear.new.s =
    gives_examined _ _ _ _ fits c.examine-answer.new.scratch _ c.examine-answer.result
    c.examine-answer.ensures (omega arith) c.clear.ensures in
    record { answer = g.0; scratch = g.1 }
