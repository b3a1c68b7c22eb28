-- `repair_search::Drawing::raise_at` meets its contract, from those of its calls. Assumes nothing.
use Rattle.int64.specs.Whole.{held}
use Rattle.scratch_tables.specs.Tables.{tables_of}
use Rattle.repair_search.specs.SearchLoops.{raise-by}
use Rattle.repair_search.proofs.Drawing.raise_at.Goals as goal

pub returns : goal.returns
returns c = search (held, tables_of, raise-by)
