-- `text_write_listing::vertices_length` meets its contract. The loop's invariant, `Counts`: the count is that of the lines so far. Assumes nothing.
use Rattle.text_write_listing.specs.LoopInvariants.{counts_none, counts_more}
use Rattle.text_write_listing.proofs.vertices_length.Goals as goal

pub loop-i-init : goal.loop-i-init
loop-i-init c = search counts_none

pub loop-i-preserved : goal.loop-i-preserved
loop-i-preserved c = search counts_more
