-- `mesh_connectivity::disconnected` meets its contract, from those of its three steps. Assumes nothing.
use Rattle.mesh_connectivity.specs.FloodFillLoops.{starts, begun, split}
use Rattle.mesh_connectivity.proofs.disconnected.Goals as goal

pub begin-start-requires : goal.begin-start-requires
begin-start-requires c = search starts

pub explore-requires : goal.explore-requires
explore-requires c = search begun

pub returns : goal.returns
returns c = search split
