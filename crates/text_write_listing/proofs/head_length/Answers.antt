-- `text_write_listing::head_length` meets its contract. The line by its numbers. Assumes nothing.
use Rattle.text_write_listing.specs.LoopInvariants.{head_counted}
use Rattle.text_write_listing.proofs.head_length.Goals as goal

pub returns : goal.returns
returns c = search head_counted
