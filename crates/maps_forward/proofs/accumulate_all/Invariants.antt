-- `maps_forward::accumulate_all` meets its contract. The loop's invariant: the vertices passed have left. Assumes nothing.
use Rattle.std.proofs.Common.{length, ◌≡◌}
use Rattle.labels_tables.specs.Peeling.{peeling}
use Rattle.maps_forward_model.specs.Model.{accumulate_all}
use Rattle.maps_forward.proofs.accumulate_all.Given as goal

abbrev pub invariant-loop-k : goal.invariant-loop-k
invariant-loop-k l = l.coordinates ≡ accumulate_all (length l.scratch) (peeling l.scratch) l.weights l.k l.initial.coordinates
