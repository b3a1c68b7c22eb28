-- `mesh_sides::match_sides` meets its contract. The loop's invariant: the vertices from v on give what all of them give. Assumes nothing.
use Rattle.mesh_sides.specs.LoopInvariants.{Matching}
use Rattle.mesh_sides.proofs.match_sides.Given as goal

abbrev pub invariant-loop-v : goal.invariant-loop-v
invariant-loop-v l = Matching l.n l.initial.s l.s l.v l.rings
