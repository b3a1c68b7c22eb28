-- `text_read_job::read_triangles` meets its contract. The loop's invariant, `Reads`: the lines read so far gave the first numbers of the slice, and the
-- rest of the lines give the rest. Assumes nothing.
use Rattle.std.proofs.Common.{arith, rules}
use Rattle.std.proofs.lemmas.Result.{err_from_is_err_and}
use Rattle.text_read_job.specs.LoopInvariants.{triangles_steady, reads_none, reads_broken, reads_more, reads_all, three_stored, moved}
use Rattle.text_read_job.proofs.read_triangles.Goals as goal

pub loop-i-init : goal.loop-i-init
loop-i-init c = reads_none triangles_steady _ _ _ c.args.triangles.now

pub returns-in_err-corners : goal.returns-in_err-corners
returns-in_err-corners c =
    let e = c.in_err-corners.ensures.ok_part in
    let p = err_from_is_err_and c.from_residual.result c.from_residual.ensures.1 in
    rw p.1 (reads_broken triangles_steady _ _ _ _ _ _ c.loop-i.invariant (omega arith) _ c.rest.ensures _ c.triangle_at.ensures e _ (search rules))

pub loop-i-preserved : goal.loop-i-preserved
loop-i-preserved c =
    let e = c.in_ok-corners.ensures.ok_part in
    reads_more triangles_steady _ _ _ _ _ _ c.loop-i.invariant (omega arith) _ c.rest.ensures _ c.triangle_at.ensures _ e _ _
    (three_stored _ _ _ _ c.copy_from_slice.ensures.after c.copy_from_slice.ensures.len (omega arith)) (moved _ _ c.next_line-reader.ensures)

pub returns : goal.returns
returns c = reads_all triangles_steady _ _ _ _ _ _ c.loop-i.invariant (omega arith) (omega arith)
