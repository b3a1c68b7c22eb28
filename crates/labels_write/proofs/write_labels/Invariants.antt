-- `labels_write::write_labels` meets its contract: triangle by triangle. Assumes nothing.
use Rattle.labels_tables.specs.Peeling.{peeling}
use Rattle.labels_write.specs.Writing.{Writing}
use Rattle.labels_write.proofs.write_labels.Given as goal

abbrev pub invariant-loop-t : goal.invariant-loop-t
invariant-loop-t l = Writing (peeling l.scratch) l.labels l.t
