-- `text_format::put_digits` meets its contract. The loop's invariant, `Filled`: the digits from place k on are written, and those before it stand for the
-- number that is left. Assumes nothing.
use Rattle.text_format.specs.DigitLoops.{filled_none, filled_more}
use Rattle.text_format.proofs.put_digits.Goals as goal

pub loop-k-init : goal.loop-k-init
loop-k-init c = search filled_none

pub loop-k-preserved : goal.loop-k-preserved
loop-k-preserved c = search filled_more
