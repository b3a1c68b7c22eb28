-- `job_call::packmap_job` meets its contract, by the host's number of each answer. Assumes nothing.
use Rattle.std.proofs.Common.{arith, ◌∙◌}
use Rattle.job_call.specs.Outcomes.{near_line, host_buffer, host_listed, host_refused}
use Rattle.job_call.proofs.packmap_job.Goals as goal

pub returns-in-Ok : goal.returns-in-Ok
returns-in-Ok c = search (host_listed, host_buffer)

pub overflow_add-result : goal.overflow_add-result
overflow_add-result c = omega (arith, near_line _ c.in-Err.ensures.line, c.line.ensures)

pub overflow_mul-result : goal.overflow_mul-result
overflow_mul-result c = omega (arith, near_line _ c.in-Err.ensures.line, c.line.ensures)

pub overflow_add-result-in-Err : goal.overflow_add-result-in-Err
overflow_add-result-in-Err c = omega (arith, near_line _ c.in-Err.ensures.line, c.line.ensures)

pub returns-in-Err : goal.returns-in-Err
returns-in-Err c = record {
  number = host_refused _ _ _ c.run.ensures.answer _ c.in-Err.is _ _ c.line.ensures (c.from.ensures ∙ c.number.ensures);
  listing = host_buffer _ _ _ c.run.ensures.listing;
}
