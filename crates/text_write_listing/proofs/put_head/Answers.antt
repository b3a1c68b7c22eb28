-- `text_write_listing::put_head` meets its contract. The line by its numbers. Assumes nothing.
use Rattle.text_write_listing.specs.LoopInvariants.{head_room, head_wrote}
use Rattle.text_write_listing.proofs.put_head.Goals as goal

pub put_line-requires : goal.put_line-requires
put_line-requires c = search head_room

pub returns : goal.returns
returns c = search head_wrote
