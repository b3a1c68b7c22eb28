-- `text_format::fields_length` meets its contract. The loop's invariant, `Counts`: the count is that of the fields so far. Assumes nothing.
use Rattle.text_format.specs.LineLoops.{counts_none, counts_more}
use Rattle.text_format.proofs.fields_length.Goals as goal

pub loop-x-init : goal.loop-x-init
loop-x-init c = search counts_none

pub loop-x-preserved : goal.loop-x-preserved
loop-x-preserved c = search counts_more
