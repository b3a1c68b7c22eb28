-- `mesh_connectivity::clear_flags` meets its contract. The loop's invariant: the flags passed are zero, and the words of darts and vertices are as
-- before. Assumes nothing.
use Rattle.std.proofs.Common.{◌≤◌}
use Rattle.mesh_connectivity.specs.FloodFillLoops.{Unflagging}
use Rattle.mesh_connectivity.proofs.clear_flags.Given as goal

abbrev pub invariant-loop-t : goal.invariant-loop-t
invariant-loop-t l = Unflagging l.initial.s l.s l.t × (l.t ≤ l.m)
