-- `maps_backward::write_weights` meets its contract. The loop's invariant: the weights passed are those kept, and there are as many as before. Assumes
-- nothing.
use Rattle.std.proofs.Common.{length, ◌≤◌}
use Rattle.maps_backward.specs.Buffer.{Copied}
use Rattle.maps_backward.proofs.write_weights.Given as goal

abbrev pub invariant-loop-i : goal.invariant-loop-i
invariant-loop-i l = Copied l.scratch l.initial.weights l.weights l.i × (l.i ≤ length l.initial.weights)
