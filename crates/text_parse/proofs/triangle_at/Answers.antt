-- `text_parse::triangle_at` meets its contract. The line up to its LF; with no LF there is no line. Assumes nothing.
use Rattle.definitions.specs.Job.{triangle_line}
use Rattle.std.proofs.Common.{refl}
use Rattle.text_model.specs.Reading.{line_of_lem, no_line_of}
use Rattle.text_parse.proofs.triangle_at.Goals as goal

pub returns-in_err-first_line : goal.returns-in_err-first_line
returns-in_err-first_line c = rw c.from_residual.ensures (no_line_of triangle_line c.args.rest.now _ refl c.in_err-first_line.ensures)

pub returns : goal.returns
returns c = line_of_lem triangle_line c.args.rest.now _ _ _ refl c.in_ok-first_line.ensures.0 c.in_ok-first_line.ensures.1 c.read_triangle.ensures
