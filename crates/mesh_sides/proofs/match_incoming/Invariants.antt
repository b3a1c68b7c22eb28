-- `mesh_sides::match_incoming` meets its contract. The loop's invariant: the walk from e on gives what the whole walk gives. Assumes nothing.
use Rattle.mesh_sides.specs.LoopInvariants.{Tying}
use Rattle.mesh_sides.proofs.match_incoming.Given as goal

abbrev pub invariant-loop : goal.invariant-loop
invariant-loop l = Tying l.initial.s l.v l.k l.initial.e l.s l.e l.counter
