-- `mesh_sides::match_incoming` meets its contract. The loop's invariant: the walk from e on gives what the whole walk gives. Assumes nothing.
use Rattle.mesh_sides.specs.LoopInvariants.{tying_start, tying_dart, tying_beside, tying_next, tied_lacks, tied-none}
use Rattle.mesh_sides.proofs.match_incoming.Goals as goal

pub loop-init : goal.loop-init
loop-init c = search tying_start

pub turn-link-requires : goal.turn-link-requires
turn-link-requires c = search tying_dart

pub match_dart-requires : goal.match_dart-requires
match_dart-requires c = search tying_beside

pub loop-preserved : goal.loop-preserved
loop-preserved c = search tying_next

pub returns-then-not-match_dart : goal.returns-then-not-match_dart
returns-then-not-match_dart c = search tied_lacks

pub returns : goal.returns
returns c = search tied-none
