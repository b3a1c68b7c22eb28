-- `maps_backward::weights_past_limit` meets its contract. The loop's invariant: the weights passed are kept, their absolute values and those still to come
-- make up the whole, and the sum is within the limit. Assumes nothing.
use Rattle.std.proofs.Common.{◌*◌, ◌-◌}
use Rattle.labels_tables.specs.Peeling.{peeling}
use Rattle.maps_limits.specs.Limits.{Summed}
use Rattle.maps_backward.specs.Weights.{weights}
use Rattle.maps_backward.specs.Buffer.{Buffering}
use Rattle.maps_backward.proofs.weights_past_limit.Given as goal

abbrev pub invariant-loop-i : goal.invariant-loop-i
invariant-loop-i l =
    let ws = weights l.coordinates (peeling l.initial.scratch) (2 * l.n - 5) in Buffering ws l.initial.scratch l.scratch l.i × Summed ws l.i l.sum
