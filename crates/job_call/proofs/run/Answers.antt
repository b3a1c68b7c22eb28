-- `job_call::run` meets its contract: what the reader answers gives the end of the job. Assumes nothing.
use Rattle.std.proofs.lemmas.Result.{err_from_is_err_and}
use Rattle.std.proofs.Common.{Err}
use Rattle.definitions.specs.Job.{run_job}
use Rattle.job_call.specs.Answer.{Ends}
use Rattle.job_call.specs.Outcomes.{run-finish, run-read, exact-read, exact-finish}
use Rattle.job_call.specs.declared.JobRefusal.TheVariants.{Text}
use Rattle.job_call.proofs.run.Goals as goal

pub returns-in_err-n : goal.returns-in_err-n
returns-in_err-n c =
    let a = c.args in
    let p = err_from_is_err_and c.from_residual.result c.from_residual.ensures.1 in
    let e : Ends (run_job a.text.now) a.listing.now a.listing.now (Err (Text c.in_err-n.field-0.0)) =
    run-read _ c.read_job.result _ _ c.read_job.ensures.weights_after _ c.in_err-n.was _ in
    record {
      answer = rw (p.1, p.2) e.answer;
      listing = e.buffer;
      line = rw (p.1, p.2) e.line;
      exact = rw (p.1, p.2) (exact-read _ c.read_job.result _ _ c.read_job.ensures.weights_after _ c.in_err-n.was);
    }

pub returns : goal.returns
returns c =
    let a = c.args in
    let e : Ends (run_job a.text.now) a.listing.now c.finish.new.listing c.finish.result =
    run-finish _ c.read_job.result _ _ c.read_job.ensures.weights_after _ c.in_ok-n.was _ _ _ c.finish.ensures.ends in
    record {
      answer = e.answer;
      listing = e.buffer;
      line = e.line;
      exact = exact-finish _ c.read_job.result _ _ c.read_job.ensures.weights_after _ c.in_ok-n.was _ c.finish.ensures.exact;
    }
