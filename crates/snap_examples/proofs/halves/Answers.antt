-- `snap_examples::halves` meets its contract: the definition, computed at each share, is what `snapped` ensures. Assumes nothing.
use lib.Ieee.{of_bits, neg}
use Rattle.snap_examples.specs.Seen.{whole_of, whole_tested}
use Rattle.snap_examples.proofs.halves.Goals as goal

pub expect-requires : goal.expect-requires
unfolding whole_of of_bits neg
expect-requires c = search whole_tested

pub expect-requires-2 : goal.expect-requires-2
unfolding whole_of of_bits neg
expect-requires-2 c = search whole_tested

pub expect-requires-3 : goal.expect-requires-3
unfolding whole_of of_bits neg
expect-requires-3 c = search whole_tested

pub expect-requires-4 : goal.expect-requires-4
unfolding whole_of of_bits neg
expect-requires-4 c = search whole_tested
