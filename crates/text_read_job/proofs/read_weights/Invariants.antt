-- `text_read_job::read_weights` meets its contract. The loop's invariant, `Reads`: the lines read so far gave the first numbers of the slice, and the
-- rest of the lines give the rest. Assumes nothing.
use Rattle.definitions.specs.Job.{weight_line, read_lines}
use Rattle.text_read_job.specs.Answer.{left}
use Rattle.text_read_job.specs.LoopInvariants.{Reads, ones}
use Rattle.text_read_job.proofs.read_weights.Given as goal

abbrev pub invariant-loop-i : goal.invariant-loop-i
invariant-loop-i l = Reads ones (read_lines weight_line) (left l.start) l.count l.first l.weights (left l.reader) l.i
