-- `mesh_connectivity::begin` meets its contract: the triangle across dart 0 has a flag. Assumes nothing.
use Rattle.std.proofs.Common.{arith}
use Rattle.std.proofs.lemmas.Grind.{common_steps}
use Rattle.mesh_connectivity.specs.FloodFillLoops.{starting_first, starting_space, stays}
use Rattle.mesh_model.specs.FloodFill.{begin, start_by, reach}
use Rattle.mesh_connectivity.proofs.begin.Goals as goal

pub visit-first-requires : goal.visit-first-requires
visit-first-requires c = search starting_first

pub narrow-requires : goal.narrow-requires
narrow-requires c = starting_space _ _ _ _ _ c.requires (omega arith) c.turn-across.ensures.small c.visit-first.ensures.dart

pub returns : goal.returns
unfolding begin start_by reach
returns c = grind (arith, common_steps, stays)
