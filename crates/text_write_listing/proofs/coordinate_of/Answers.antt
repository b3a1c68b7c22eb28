-- `text_write_listing::coordinate_of` meets its contract: what `get` found, or 0. Assumes nothing.
use Rattle.std.proofs.Common.{arith, pos, rules}
use Rattle.definitions.specs.Backward.{coordinate}
use Rattle.text_write_listing.proofs.coordinate_of.Goals as goal

pub returns : goal.returns
unfolding coordinate
returns c = search (rules, c.get.ensures.lookup.4 (omega arith) (pos 0))
