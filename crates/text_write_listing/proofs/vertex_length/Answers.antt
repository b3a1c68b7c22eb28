-- `text_write_listing::vertex_length` meets its contract. The line by its numbers. Assumes nothing.
use Rattle.text_write_listing.specs.LoopInvariants.{vertex_counted}
use Rattle.text_write_listing.proofs.vertex_length.Goals as goal

pub returns : goal.returns
returns c = search vertex_counted
