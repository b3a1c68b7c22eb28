-- `scratch_tables::set_word` meets its contract, from those of `column_start` and `store`. Assumes nothing.
use Rattle.scratch_tables.specs.Tables.{tables_of-entry}
use Rattle.scratch_tables.proofs.set_word.Goals as goal

pub returns : goal.returns
returns c =
    rw (c.store.ensures, c.column_start-start.ensures.is)
    (tables_of-entry c.args.s.now c.args.column c.args.v c.args.x c.requires.1 c.requires.0)
