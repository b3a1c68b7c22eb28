-- `mesh_connectivity::explore` meets its contract. The loop's invariant: the triangles that are left from here on give what all give. Assumes nothing.
use Rattle.mesh_connectivity.specs.FloodFillLoops.{exploring_leaves, exploring_next, explored_soon, explored_all}
use Rattle.mesh_connectivity.proofs.explore.Goals as goal

pub returns-then-place : goal.returns-then-place
returns-then-place c = search explored_soon

pub leave-place-requires : goal.leave-place-requires
leave-place-requires c = search exploring_leaves

pub loop-preserved : goal.loop-preserved
loop-preserved c = search exploring_next

pub returns : goal.returns
returns c = search explored_all
