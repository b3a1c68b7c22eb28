-- `scratch_tables::flag` meets its contract, from those of `column_start` and `load`. Assumes nothing.
use Rattle.std.proofs.Common.{sym, ◌∙◌}
use Rattle.scratch_tables.specs.Tables.{flag_in}
use Rattle.scratch_tables.proofs.flag.Goals as goal

pub returns-clause-is : goal.returns-clause-is
returns-clause-is c = (rw c.column_start.ensures.is at c.load.ensures.0) ∙ sym (flag_in c.args.s.now c.args.t c.requires)
