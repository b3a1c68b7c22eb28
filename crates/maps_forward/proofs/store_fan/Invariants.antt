-- `maps_forward::store_fan` meets its contract. The loop's invariant: what is left of the fan ends as the whole of it. It gets shorter with each dart.
-- Assumes nothing.
use Rattle.std.proofs.Common.{length, ◌≡◌}
use Rattle.labels_tables.specs.Peeling.{peeling}
use Rattle.maps_forward_model.specs.Model.{stores, fan_from}
use Rattle.maps_forward.specs.LoopLaws.{FanLoop}
use Rattle.maps_forward.proofs.store_fan.Given as goal

abbrev pub invariant-loop-q : goal.invariant-loop-q
invariant-loop-q l = let t = peeling l.scratch in
    FanLoop l.weights l.scratch l.stop (stores t.origin l.weights (fan_from t l.stop (length l.scratch) l.from) l.initial.coordinates) l.coordinates l.g l.q
    × (length l.coordinates ≡ length l.initial.coordinates)

abbrev pub decreases-loop-q : goal.decreases-loop-q
decreases-loop-q l = length (fan_from (peeling l.scratch) l.stop (length l.scratch) l.g)
