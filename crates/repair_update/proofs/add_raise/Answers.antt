-- `repair_update::add_raise` meets its contract: the walk, and v0 and v1 by themselves. Assumes nothing.
use Rattle.std.proofs.Common.{to_z-of_z, get_or, pos, set, ◌+◌, ◌*◌}
use Rattle.repair_update.specs.Signed.{sum_fits, stored_sum}
use Rattle.repair_update.specs.WalkLoop.{walk_pre, first_room, last_room, moved_all}
use Rattle.repair_update.proofs.add_raise.Goals as goal

pub walk-requires : goal.walk-requires
walk-requires c = search (walk_pre, to_z-of_z)

pub overflow_add-coordinates-3 : goal.overflow_add-coordinates-3
overflow_add-coordinates-3 c =
    let W = rw (to_z-of_z c.ranges.x) at c.walk.ensures in
    let e0 = c.origin-v0.ensures.is in
    let made0 = stored_sum _ _ _ (first_room _ _ _ _ _ c.requires _ W _ e0).1 in
    let there = get_or (set c.walk.new.coordinates (3 * c.origin-v0.result) _) (3 * c.origin-v1.result + 1) (pos 0) in
    rw (to_z-of_z c.ranges.x) (sum_fits there _ (last_room _ _ _ _ _ c.requires _ W _ e0 _ made0 _ c.origin-v1.ensures.is).1)

pub returns : goal.returns
returns c =
    let W = rw (to_z-of_z c.ranges.x) at c.walk.ensures in
    let e0 = c.origin-v0.ensures.is in
    let e1 = c.origin-v1.ensures.is in
    let made0 = stored_sum _ _ _ (first_room _ _ _ _ _ c.requires _ W _ e0).1 in
    let made1 = stored_sum _ _ _ (last_room _ _ _ _ _ c.requires _ W _ e0 _ made0 _ e1).1 in
    rw (to_z-of_z c.ranges.x) (moved_all _ _ _ _ _ c.requires _ W _ e0 _ made0 _ e1 _ made1)
