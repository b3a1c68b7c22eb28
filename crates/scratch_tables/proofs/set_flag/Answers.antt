-- `scratch_tables::set_flag` meets its contract, from those of `column_start` and `store`. Assumes nothing.
use Rattle.scratch_tables.specs.Tables.{flagged}
use Rattle.scratch_tables.proofs.set_flag.Goals as goal

pub returns : goal.returns
returns c = rw (c.store.ensures, c.column_start-start.ensures.is) (flagged c.args.s.now c.args.t c.args.x c.requires.1 c.requires.0)
