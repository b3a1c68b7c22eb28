-- `mesh_connectivity::clear_flags` meets its contract. The loop's invariant: the flags passed are zero, and the words of darts and vertices are as
-- before. Assumes nothing.
use Rattle.std.proofs.Common.{rules}
use Rattle.mesh_connectivity.specs.FloodFillLoops.{unflagging_next}
use Rattle.mesh_connectivity.proofs.clear_flags.Goals as goal

pub loop-t-preserved : goal.loop-t-preserved
loop-t-preserved c = search (unflagging_next, rules)
