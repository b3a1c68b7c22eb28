-- `packmap::answer` meets its contract, by what the job answers. Assumes nothing.
use Rattle.std.proofs.Common.{arith}
use Rattle.job_call.specs.Outcomes.{near_line}
use Rattle.packmap.specs.Printed.{listed_printed, listed_short, refused_printed}
use Rattle.packmap.proofs.answer.Goals as goal

pub returns-in-Ok : goal.returns-in-Ok
returns-in-Ok c = search (listed_printed, listed_short)

pub overflow_cast-line : goal.overflow_cast-line
overflow_cast-line c = omega (arith, near_line _ c.in-Err.ensures.line, c.line.ensures)

pub returns-in-Err : goal.returns-in-Err
returns-in-Err c = search refused_printed
