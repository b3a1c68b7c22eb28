-- `text_write_listing::put_vertices` meets its contract. The loop's invariant: the lines so far stand at the front. Assumes nothing.
use Rattle.std.proofs.Common.{arith}
use Rattle.text_write_listing.specs.LoopInvariants.{lines_none, lines_room, lines_more}
use Rattle.text_write_listing.proofs.put_vertices.Goals as goal

pub loop-i-init : goal.loop-i-init
loop-i-init c = search lines_none

pub put_vertex-at-requires : goal.put_vertex-at-requires
put_vertex-at-requires c = (omega arith, search lines_room)

pub loop-i-preserved : goal.loop-i-preserved
loop-i-preserved c = search lines_more
