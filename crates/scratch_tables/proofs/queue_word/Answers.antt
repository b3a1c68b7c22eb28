-- `scratch_tables::queue_word` meets its contract, from those of `column_start` and `load`. Assumes nothing.
use Rattle.std.proofs.Common.{sym, ◌∙◌}
use Rattle.scratch_tables.specs.Tables.{queue_in}
use Rattle.scratch_tables.proofs.queue_word.Goals as goal

pub returns-clause-is : goal.returns-clause-is
returns-clause-is c = (rw c.column_start.ensures.is at c.load.ensures.0) ∙ sym (queue_in c.args.s.now c.args.j c.requires)
