-- `maps_backward::write_weights` meets its contract. The loop's invariant: the weights passed are those kept, and there are as many as before. Assumes
-- nothing.
use Rattle.std.proofs.Common.{arith}
use Rattle.maps_backward.specs.Buffer.{copied_all}
use Rattle.maps_backward.proofs.write_weights.Goals as goal

pub returns : goal.returns
returns c = λ ws K e. copied_all _ _ _ _ _ c.loop-i.invariant.0 (omega (arith, c.loop-i.invariant.0.long)) K e
