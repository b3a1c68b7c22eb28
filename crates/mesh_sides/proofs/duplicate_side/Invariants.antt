-- `mesh_sides::duplicate_side` meets its contract. The loop's invariant: the vertices from v on give what all of them give. Assumes nothing.
use Rattle.mesh_sides.specs.LoopInvariants.{Scanning}
use Rattle.mesh_sides.proofs.duplicate_side.Given as goal

abbrev pub invariant-loop-v : goal.invariant-loop-v
invariant-loop-v l = Scanning l.u l.n l.initial.s l.s l.v
