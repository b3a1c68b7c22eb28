-- `range_call::forward_range` meets its contract: each way out is a law of the definition. Assumes nothing.
use Rattle.std.proofs.Common.{arith, Err}
use Rattle.std.proofs.lemmas.Result.{err_from_is_err_and}
use Rattle.definitions.specs.Answers.{refused, numbered}
use Rattle.lent_slices.specs.Lengths.{row_in}
use Rattle.mesh_answer.specs.Answer.{to_answer}
use Rattle.mesh_answer.specs.Sizes.{size_told, size_some}
use Rattle.range_call.specs.CallOutcomes.{RangeFits, Gives, range_fits, gives_early, gives_run}
use Rattle.range_call.proofs.forward_range.Goals as goal

pub returns-in_err-check_sizes : goal.returns-in_err-check_sizes
returns-in_err-check_sizes c =
    let a = c.args in
    let m = a.mesh.now in
    let size = c.in_err-check_sizes.field-0.0 in
    let p = err_from_is_err_and c.from_residual.result c.from_residual.ensures.1 in
    let g : Gives m.n m.outer m.triangles.now a.lows.now a.highs.now a.lowest.now a.highest.now a.scratch.now
    (refused (numbered (row_in (Err size)))) a.lowest.now a.highest.now a.scratch.now =
    gives_early _ _ _ _ _ _ _ _ _ c.in_err-check_sizes.ensures (size_some size) in
    record { answer = rw (p.1, p.2, size_told size) g.0; lowest = g.1.0; highest = g.1.1.0; scratch = g.1.1.1 }

pub run_range-answer-requires : goal.run_range-answer-requires
run_range-answer-requires c = range_fits _ _ _ _ _ _ _ 0 c.in_ok-check_sizes.ensures (search)

pub returns : goal.returns
returns c =
    let a = c.args in
    let m = a.mesh.now in
    let ran = c.run_range-answer in
    let fits : RangeFits m.n m.triangles.now a.lows.now a.highs.now a.lowest.now a.highest.now a.scratch.now =
    range_fits _ _ _ _ _ _ _ 0 c.in_ok-check_sizes.ensures (search) in
    let g : Gives m.n m.outer m.triangles.now a.lows.now a.highs.now a.lowest.now a.highest.now a.scratch.now
    (to_answer ran.result) ran.new.lowest ran.new.highest c.clear.new.s =
    gives_run _ _ _ _ _ _ _ _ fits _ _ _ (ran.ensures.answer, (ran.ensures.lowest, ran.ensures.highest))
    ran.new.scratch _ (omega arith) c.clear.ensures in
    record { answer = g.0; lowest = g.1.0; highest = g.1.1.0; scratch = g.1.1.1 }
