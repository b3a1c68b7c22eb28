-- `text_read_job::read_triangles` meets its contract. The loop's invariant, `Reads`: the lines read so far gave the first numbers of the slice, and the
-- rest of the lines give the rest. Assumes nothing.
use Rattle.text_read_job.specs.Answer.{left}
use Rattle.text_read_job.specs.LoopInvariants.{Reads, threes, corners}
use Rattle.text_read_job.proofs.read_triangles.Given as goal

abbrev pub invariant-loop-i : goal.invariant-loop-i
invariant-loop-i l = Reads threes corners (left l.start) l.count 2 l.triangles (left l.reader) l.i
