-- `mesh_connectivity::explore` meets its contract. The loop's invariant: the triangles that are left from here on give what all give. Assumes nothing.
use Rattle.mesh_connectivity.specs.FloodFillLoops.{Exploring}
use Rattle.mesh_connectivity.proofs.explore.Given as goal

abbrev pub invariant-loop : goal.invariant-loop
invariant-loop l = Exploring l.m l.initial.s l.s l.initial.place l.place l.counter
