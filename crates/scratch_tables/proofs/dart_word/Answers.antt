-- `scratch_tables::dart_word` meets its contract, from that of `load`. Assumes nothing.
use Rattle.scratch_tables.specs.Tables.{op_in}
use Rattle.scratch_tables.proofs.dart_word.Goals as goal

pub returns : goal.returns
returns c = search op_in
