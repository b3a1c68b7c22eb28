-- `scratch_tables::pack` meets its contract. Assumes nothing.
use Rattle.std.proofs.Common.{rules}
use Rattle.scratch_tables.specs.Fields.{pack}
use Rattle.scratch_tables.proofs.pack.Goals as goal

pub returns : goal.returns
unfolding pack
returns c = search rules
