-- `scratch_tables::set_queue` meets its contract, from those of `column_start` and `store`. Assumes nothing.
use Rattle.scratch_tables.specs.Tables.{queued}
use Rattle.scratch_tables.proofs.set_queue.Goals as goal

pub returns : goal.returns
returns c = rw (c.store.ensures, c.column_start-start.ensures.is) (queued c.args.s.now c.args.j c.args.x c.requires.1 c.requires.0)
