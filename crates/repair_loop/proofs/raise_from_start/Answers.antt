-- `repair_loop::raise_from_start` meets its contract: the loop is entered at once, or with the first raise. Assumes nothing.
use Rattle.std.proofs.Common.{◌∙◌}
use Rattle.int64.specs.Whole.{held}
use Rattle.repair_loop.specs.AllRaises.{total-there, straight_pre, straight, first_due}
use Rattle.repair_loop.proofs.raise_from_start.Goals as goal

pub coordinate_at-total-requires : goal.coordinate_at-total-requires
coordinate_at-total-requires c = search total-there

pub raise_all-requires : goal.raise_all-requires
raise_all-requires c =
    straight_pre _ _ _ _ _ c.requires.0 _ c.requires.1 _ (held _ c.coordinate_at-total.type_inv ∙ c.coordinate_at-total.ensures)
    c.if-total-ge-LEAST_TOTAL.true

pub make_first_raise-requires : goal.make_first_raise-requires
make_first_raise-requires c =
    first_due _ _ _ _ _ c.requires.0 _ c.requires.1 _ (held _ c.coordinate_at-total.type_inv ∙ c.coordinate_at-total.ensures)
    c.if-total-ge-LEAST_TOTAL.false

pub returns-then-total-ge-LEAST_TOTAL : goal.returns-then-total-ge-LEAST_TOTAL
returns-then-total-ge-LEAST_TOTAL c =
    straight _ _ _ _ _ c.requires.0 _ c.requires.1 _ (held _ c.coordinate_at-total.type_inv ∙ c.coordinate_at-total.ensures)
    c.if-total-ge-LEAST_TOTAL.true _ _ _ c.raise_all.ensures
