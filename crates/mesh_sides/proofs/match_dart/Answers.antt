-- `mesh_sides::match_dart` meets its contract, case by case. Assumes nothing.
use Rattle.mesh_sides.specs.LoopInvariants.{met-none, met-one}
use Rattle.mesh_sides.proofs.match_dart.Goals as goal

pub returns-then-m-v : goal.returns-then-m-v
returns-then-m-v c = search met-one

pub returns : goal.returns
returns c = search met-none
