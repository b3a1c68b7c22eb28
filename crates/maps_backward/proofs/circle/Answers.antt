-- `maps_backward::circle` meets its contract: a total and three coordinates within the limit leave their difference room. Assumes nothing.
use Rattle.std.proofs.Common.{arith}
use Rattle.std.proofs.lemmas.Int.{ints}
use Rattle.maps_limits.specs.Limits.{coordinate_parts}
use Rattle.maps_backward.proofs.circle.Goals as goal

pub overflow_sub-result-3 : goal.overflow_sub-result-3
overflow_sub-result-3 c = omega (arith, ints, coordinate_parts _ c.requires.4)

pub returns : goal.returns
returns c = omega (arith, ints, coordinate_parts _ c.requires.4)
