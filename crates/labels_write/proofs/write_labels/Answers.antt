-- `labels_write::write_labels` meets its contract: triangle by triangle. Assumes nothing.
use Rattle.std.proofs.Common.{arith}
use Rattle.labels_write.specs.Writing.{writing_more}
use Rattle.labels_write.proofs.write_labels.Goals as goal

pub write_triangle-requires : goal.write_triangle-requires
write_triangle-requires c = (c.requires.1 c.loop-t.t (omega arith), omega arith)

pub loop-t-preserved : goal.loop-t-preserved
loop-t-preserved c = writing_more _ c.loop-t.labels _ c.loop-t.t (omega arith) (search) c.loop-t.invariant
