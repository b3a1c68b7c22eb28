-- `mesh_connectivity::leave` meets its contract: its darts have words, and the triangles across have flags. Assumes nothing.
use Rattle.std.proofs.Common.{arith}
use Rattle.std.proofs.lemmas.Grind.{common_steps}
use Rattle.mesh_connectivity.specs.FloodFillLoops.{leaving_dart, leaving_prev, leaving_small, leaving_first, leaving_second, leaving_space, stays}
use Rattle.mesh_model.specs.FloodFill.{leave, leave_for, reach}
use Rattle.mesh_connectivity.proofs.leave.Goals as goal

pub turn-a-requires : goal.turn-a-requires
turn-a-requires c = search leaving_dart

pub prev_dart-requires : goal.prev_dart-requires
prev_dart-requires c = search leaving_small

pub turn-b-requires : goal.turn-b-requires
turn-b-requires c = search leaving_prev

pub visit-first-requires : goal.visit-first-requires
visit-first-requires c = search leaving_first

pub visit-second-requires : goal.visit-second-requires
visit-second-requires c = search leaving_second

pub onward-requires : goal.onward-requires
onward-requires c = search leaving_space

pub returns : goal.returns
unfolding leave leave_for reach
returns c = grind (arith, common_steps, stays)
