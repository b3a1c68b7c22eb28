-- `maps_forward::write_thirds` meets its contract. The loop's invariant: the vertices passed have their third coordinate. Assumes nothing.
use Rattle.definitions.specs.Backward.{coordinate}
use Rattle.maps_forward_model.specs.Thirds.{ThirdsWritten}
use Rattle.maps_forward.proofs.write_thirds.Given as goal

abbrev pub invariant-loop-v : goal.invariant-loop-v
invariant-loop-v l = ThirdsWritten l.v (coordinate l.initial.coordinates 0 l.v0) l.initial.coordinates l.coordinates
