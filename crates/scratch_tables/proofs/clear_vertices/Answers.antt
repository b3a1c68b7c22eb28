-- `scratch_tables::clear_vertices` meets its contract, from that of `clear_between`. Assumes nothing.
use Rattle.scratch_tables.specs.Tables.{cleared_vertices}
use Rattle.scratch_tables.proofs.clear_vertices.Goals as goal

pub returns : goal.returns
returns c = search cleared_vertices
