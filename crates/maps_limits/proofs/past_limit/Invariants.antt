-- `maps_limits::past_limit` meets its contract. The loop's invariant: the sum so far and the absolute values still to come make up the whole, and the sum is
-- within the limit. Assumes nothing.
use Rattle.maps_limits.specs.Limits.{Summed}
use Rattle.maps_limits.proofs.past_limit.Given as goal

abbrev pub invariant-loop-w : goal.invariant-loop-w
invariant-loop-w l = Summed l.weights l.w-index l.sum
