-- `text_parse::read_vertex` meets its contract. What was read is at most 65,535, so it fits 16 bits. Assumes nothing.
use Rattle.std.proofs.Common.{sym, arith}
use Rattle.definitions.specs.Job.{vertex_field}
use Rattle.text_model.specs.Scan.{within_most}
use Rattle.text_parse.proofs.read_vertex.Goals as goal

pub returns-in_err-k : goal.returns-in_err-k
unfolding vertex_field
returns-in_err-k c = rw c.from_residual.ensures c.in_err-k.ensures

pub overflow_cast-result : goal.overflow_cast-result
overflow_cast-result c = omega (arith, within_most 65535 c.args.s.now c.in_ok-k.k (sym c.in_ok-k.ensures))

pub returns : goal.returns
unfolding vertex_field
returns c = c.in_ok-k.ensures
