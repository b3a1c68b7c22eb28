-- `lent_slices::check_sizes` meets its contract. The loop's invariant: the lengths from there on find what all find. Assumes nothing.
use Rattle.lent_slices.specs.Lengths.{Comparing}
use Rattle.lent_slices.proofs.check_sizes.Given as goal

abbrev pub invariant-loop-contents : goal.invariant-loop-contents
invariant-loop-contents l = Comparing l.n l.lent l.contents-index
