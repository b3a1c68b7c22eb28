-- `scratch_tables::field` meets its contract. Assumes nothing.
use Rattle.scratch_tables.specs.Fields.{field_is}
use Rattle.scratch_tables.proofs.field.Goals as goal

pub returns-clause-is : goal.returns-clause-is
returns-clause-is g c = search field_is
