-- `maps_limits::sum_of` meets its contract: three coordinates within the limit leave their sum room. Assumes nothing.
use Rattle.std.proofs.Common.{arith}
use Rattle.std.proofs.lemmas.Int.{ints}
use Rattle.maps_limits.specs.Limits.{coordinate_parts}
use Rattle.maps_limits.proofs.sum_of.Goals as goal

pub returns : goal.returns
returns c = omega (arith, ints, coordinate_parts _ c.requires.1)
