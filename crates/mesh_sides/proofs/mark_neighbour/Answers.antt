-- `mesh_sides::mark_neighbour` meets its contract, case by case. Assumes nothing.
use Rattle.mesh_sides.specs.LoopInvariants.{left_clash, left-on}
use Rattle.mesh_sides.proofs.mark_neighbour.Goals as goal

pub returns-then-m-v : goal.returns-then-m-v
returns-then-m-v c = search left_clash

pub returns : goal.returns
returns c = search left-on
