-- `text_read_job::read_weights` meets its contract. The loop's invariant, `Reads`: the lines read so far gave the first numbers of the slice, and the
-- rest of the lines give the rest. Assumes nothing.
use Rattle.std.proofs.Common.{arith, rules}
use Rattle.std.proofs.lemmas.Result.{err_from_is_err_and}
use Rattle.text_read_job.specs.LoopInvariants.{weights_steady, reads_none, reads_broken, reads_more, reads_all, weight_stored, moved}
use Rattle.text_read_job.proofs.read_weights.Goals as goal

pub loop-i-init : goal.loop-i-init
loop-i-init c = reads_none weights_steady _ _ _ c.args.weights.now

pub returns-in_err-weights : goal.returns-in_err-weights
returns-in_err-weights c =
    let e = c.in_err-weights.ensures.ok_part in
    let p = err_from_is_err_and c.from_residual.result c.from_residual.ensures.1 in
    rw p.1 (reads_broken weights_steady _ _ _ _ _ _ c.loop-i.invariant (omega arith) _ c.rest.ensures _ c.weight_at.ensures e _ (search rules))

pub loop-i-preserved : goal.loop-i-preserved
loop-i-preserved c =
    let e = c.in_ok-weights.ensures.ok_part in
    reads_more weights_steady _ _ _ _ _ _ c.loop-i.invariant (omega arith) _ c.rest.ensures _ c.weight_at.ensures _ e _ _
    (weight_stored _ _ _ (search) (omega arith))
    (moved _ _ c.next_line-reader.ensures)

pub returns : goal.returns
returns c = reads_all weights_steady _ _ _ _ _ _ c.loop-i.invariant (omega arith) (omega arith)
