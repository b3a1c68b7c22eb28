-- `snap_call::inside` meets its contract: the two comparisons are those of the definition. Assumes nothing.
use lib.Ieee.{of_bits, neg}
use Rattle.snap_model.specs.Share.{inside}
use Rattle.snap_call.proofs.inside.Goals as goal

pub returns-then-share : goal.returns-then-share
unfolding inside of_bits neg
returns-then-share c = cc

pub returns-else-share : goal.returns-else-share
unfolding inside of_bits neg
returns-else-share c = cc
