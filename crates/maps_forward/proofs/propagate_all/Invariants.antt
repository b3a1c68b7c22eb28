-- `maps_forward::propagate_all` meets its contract. The loop's invariant: the vertices passed are back. Assumes nothing.
use Rattle.std.proofs.Common.{◌-◌, ◌≡◌}
use Rattle.labels_tables.specs.Peeling.{peeling}
use Rattle.maps_forward_model.specs.Model.{propagate_all}
use Rattle.maps_forward.proofs.propagate_all.Given as goal

abbrev pub invariant-loop-k : goal.invariant-loop-k
invariant-loop-k l = l.coordinates ≡ propagate_all (peeling l.scratch) (l.n - 2) (l.n - 2 - l.k) l.initial.coordinates
