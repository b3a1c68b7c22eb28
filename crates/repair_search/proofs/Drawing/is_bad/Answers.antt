-- `repair_search::Drawing::is_bad` meets its contract, from those of its calls. Assumes nothing.
use Rattle.repair_search.specs.SearchLoops.{bad-by}
use Rattle.repair_search.proofs.Drawing.is_bad.Goals as goal

pub returns : goal.returns
returns c = search bad-by
