-- `repair_loop::make_first_raise` meets its contract: where the raise would break 9 nothing is changed, otherwise the loop goes on from it. Assumes nothing.
use Rattle.std.proofs.Common.{to_z-of_z, ◌∙◌}
use Rattle.int64.specs.Whole.{held}
use Rattle.repair_loop.specs.AllRaises.{can_search-first, some, can_raise-first, first_stops, after-first_pre, after_first}
use Rattle.repair_loop.proofs.make_first_raise.Goals as goal

pub new-requires : goal.new-requires
new-requires c = search can_search-first

pub first_raise-x-requires : goal.first_raise-x-requires
first_raise-x-requires c = (rw c.new.ensures.triangles (some _ _ _ _ _ _ c.requires), rw (to_z-of_z c.ranges.total) c.requires.small)

pub try_raise-requires : goal.try_raise-requires
try_raise-requires c =
    let d = c.new.ensures in
    let x = held _ c.first_raise-x.type_inv ∙ rw (d.scratch, d.coordinates) at c.first_raise-x.ensures in
    can_raise-first _ _ _ _ _ _ c.requires _ _ (to_z-of_z c.ranges.total) x

pub returns-in_default : goal.returns-in_default
returns-in_default c =
    let d = c.new.ensures in
    let x = held _ c.first_raise-x.type_inv ∙ rw (d.scratch, d.coordinates) at c.first_raise-x.ensures in
    first_stops _ _ _ _ _ _ c.requires _ _ (to_z-of_z c.ranges.total) x _ _ _
    c.in_default.ensures.2 c.in_default.ensures.1

pub raise_all-requires : goal.raise_all-requires
raise_all-requires c =
    let d = c.new.ensures in
    let x = held _ c.first_raise-x.type_inv ∙ rw (d.scratch, d.coordinates) at c.first_raise-x.ensures in
    after-first_pre _ _ _ _ _ _ c.requires _ _ (to_z-of_z c.ranges.total) x _ _ _
    c.in-Some.ensures.1 c.in-Some.ensures.0

pub returns : goal.returns
returns c =
    let d = c.new.ensures in
    let x = held _ c.first_raise-x.type_inv ∙ rw (d.scratch, d.coordinates) at c.first_raise-x.ensures in
    after_first _ _ _ _ _ _ c.requires _ _ (to_z-of_z c.ranges.total) x _ _ _
    c.in-Some.ensures.1 c.in-Some.ensures.0 _ _ _ c.raise_all.ensures
