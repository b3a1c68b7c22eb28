-- `mesh_sides::mark_outgoing` meets its contract. The loop's invariant: the walk from e on gives what the whole walk gives. Assumes nothing.
use Rattle.mesh_sides.specs.LoopInvariants.{Marking}
use Rattle.mesh_sides.proofs.mark_outgoing.Given as goal

abbrev pub invariant-loop : goal.invariant-loop
invariant-loop l = Marking l.initial.s l.v l.k l.initial.e l.s l.e l.counter
