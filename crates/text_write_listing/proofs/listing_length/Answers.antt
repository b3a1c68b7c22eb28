-- `text_write_listing::listing_length` meets its contract. The first line and the lines of the vertices. Assumes nothing.
use Rattle.text_write_listing.specs.LoopInvariants.{whole_counted}
use Rattle.text_write_listing.proofs.listing_length.Goals as goal

pub returns : goal.returns
returns c = search whole_counted
