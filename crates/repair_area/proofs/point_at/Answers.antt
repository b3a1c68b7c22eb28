-- `repair_area::point_at` meets its contract: coordinates are within the limit. Assumes nothing.
use Rattle.maps_limits.specs.Limits.{coordinate-size}
use Rattle.repair_area.proofs.point_at.Goals as goal

pub invariant_of-result : goal.invariant_of-result
invariant_of-result c = record {
  x_within = coordinate-size _ c.requires.1 _ _ _ c.coordinate_at.ensures;
  y_within = coordinate-size _ c.requires.1 _ _ _ c.coordinate_at-2.ensures;
}
