-- `text_write_listing::put_vertex` meets its contract. The line by its numbers. Assumes nothing.
use Rattle.text_write_listing.specs.LoopInvariants.{vertex_room, vertex_wrote}
use Rattle.text_write_listing.proofs.put_vertex.Goals as goal

pub put_line-requires : goal.put_line-requires
put_line-requires c = search vertex_room

pub returns : goal.returns
returns c = search vertex_wrote
