-- `lent_slices::other_size` meets its contract: the two tests of row 1. Assumes nothing.
use Rattle.std.proofs.Common.{lt-ltb}
use Rattle.lent_slices.specs.Lengths.{size_few, size-rest}
use Rattle.lent_slices.proofs.other_size.Goals as goal

pub returns-then-n-lt3 : goal.returns-then-n-lt3
returns-then-n-lt3 c = rw (lt-ltb c.args.n 3 c.if-n-lt3.true) (size_few c.args.n c.if-n-lt3.true)

pub returns-else-n-lt3 : goal.returns-else-n-lt3
returns-else-n-lt3 c = search size-rest
