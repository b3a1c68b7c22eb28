-- `text_read_job::read_job` meets its contract. 19 first, then the first line, then 1, then the other lines. Assumes nothing.
use Rattle.std.proofs.Common.{◌≡◌, arith, rules}
use Rattle.std.proofs.lemmas.Result.{err_from_is_err_and}
use Rattle.text_model.specs.Reading.{job_long}
use Rattle.text_read_job.specs.declared.ReadError.TheVariants.{Line}
use Rattle.text_read_job.specs.LoopInvariants.{moved}
use Rattle.text_read_job.specs.Parts.{whole_broken, whole_few, whole_many, whole_body}
use Rattle.text_read_job.proofs.read_job.Goals as goal
use Rattle.text_read_job.proofs.read_job.Goals.{then-n-lt3-via-then-n-lt3, then-n-lt3-via-else-n-lt3+then-n-gt-MOST_VERTICES}

pub returns-then-text-gt-MOST_BYTES-clause-weights_after : goal.returns-then-text-gt-MOST_BYTES-clause-weights_after
returns-then-text-gt-MOST_BYTES-clause-weights_after c = search job_long

pub returns-in_err-ok_or-clause-weights_after : goal.returns-in_err-ok_or-clause-weights_after
returns-in_err-ok_or-clause-weights_after c =
    let g = rw (c.new-reader.ensures.0, c.new-reader.ensures.1) at c.rest.ensures in
    let p = err_from_is_err_and c.from_residual.result c.from_residual.ensures.1 in
    let v : c.in_err-ok_or.field-0.0 ≡ Line 1 = search rules in
    rw (p.1, p.2, v) (whole_broken _ _ (omega arith) g _ c.head_at.ensures c.in_err-ok_or.ensures.ok_part)

pub returns-then-n-lt3-clause-weights_after : goal.returns-then-n-lt3-clause-weights_after
returns-then-n-lt3-clause-weights_after c =
    let g = rw (c.new-reader.ensures.0, c.new-reader.ensures.1) at c.rest.ensures in
    let e = c.in_ok-ok_or.ensures.ok_part in
    elim c.then-n-lt3.branch [
      | then-n-lt3-via-then-n-lt3 w ↦ whole_few _ _ (omega arith) g _ c.head_at.ensures _ _ c.from-n.ensures e (omega arith)
      | then-n-lt3-via-else-n-lt3+then-n-gt-MOST_VERTICES w ↦
          whole_many _ _ (omega arith) g _ c.head_at.ensures _ _ c.from-n.ensures e (omega arith)
    ]

pub returns-clause-weights_after : goal.returns-clause-weights_after
returns-clause-weights_after c =
    let g = rw (c.new-reader.ensures.0, c.new-reader.ensures.1) at c.rest.ensures in
    let e = c.in_ok-ok_or.ensures.ok_part in
    let m = rw (c.new-reader.ensures.0, c.new-reader.ensures.1) at (moved _ _ c.next_line.ensures) in
    whole_body _ _ (omega arith) g _ c.head_at.ensures _ _ c.from-n.ensures e _ _ _ _ m (omega arith) (omega arith) c.read_body.ensures
