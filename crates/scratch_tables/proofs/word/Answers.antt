-- `scratch_tables::word` meets its contract, from those of `column_start` and `load`. Assumes nothing.
use Rattle.std.proofs.Common.{sym, ◌∙◌}
use Rattle.scratch_tables.specs.Tables.{entry_in_column}
use Rattle.scratch_tables.proofs.word.Goals as goal

pub returns-clause-is : goal.returns-clause-is
returns-clause-is c =
    (rw c.column_start.ensures.is at c.load.ensures.0) ∙ sym (entry_in_column c.args.s.now c.args.column c.args.v c.requires)
