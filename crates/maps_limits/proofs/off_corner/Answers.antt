-- `maps_limits::off_corner` meets its contract: the tests of the three outer vertices, in the definition's order. Assumes nothing.
use Rattle.std.proofs.Common.{rules}
use Rattle.maps_limits.specs.Limits.{corners_are}
use Rattle.maps_limits.proofs.off_corner.Goals as goal

pub returns : goal.returns
returns c = λ n ts ls l.
    let is0 = c.origin-v0.ensures.is in
    let is1 = c.origin-v1.ensures.is in
    let is2 = c.origin-v2.ensures.is in
    let e = corners_are _ _ _ _ _ _ n ts ls l is0 is1 is2 c.coordinate_at-total.ensures in
    search (rules, e)
