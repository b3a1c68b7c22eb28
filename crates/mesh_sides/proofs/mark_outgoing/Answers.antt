-- `mesh_sides::mark_outgoing` meets its contract. The loop's invariant: the walk from e on gives what the whole walk gives. Assumes nothing.
use Rattle.mesh_sides.specs.LoopInvariants.{marking_start, marking_dart, marking_beside, marking_next, marked_found, marked_none}
use Rattle.mesh_sides.proofs.mark_outgoing.Goals as goal

pub loop-init : goal.loop-init
loop-init c = search marking_start

pub mark_neighbour-requires : goal.mark_neighbour-requires
mark_neighbour-requires c = search marking_beside

pub returns-then-mark_neighbour : goal.returns-then-mark_neighbour
returns-then-mark_neighbour c = search marked_found

pub turn-e-requires : goal.turn-e-requires
turn-e-requires c = search marking_dart

pub loop-preserved : goal.loop-preserved
loop-preserved c = search marking_next

pub returns : goal.returns
returns c = search marked_none
