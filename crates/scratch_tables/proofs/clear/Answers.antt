-- `scratch_tables::clear` meets its contract, from that of `clear_between`. Assumes nothing.
use Rattle.scratch_tables.specs.Tables.{cleared_all}
use Rattle.scratch_tables.proofs.clear.Goals as goal

pub returns : goal.returns
returns c = search cleared_all
