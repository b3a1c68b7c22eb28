-- `repair_update::add_to_subtree` meets its contract: a word that names a subtree names its range in one of the two rows. Assumes nothing.
use Rattle.std.proofs.Common.{arith, refl, to_z-of_z}
use Rattle.repair_update.specs.WalkLoop.{subtree_range, subtree_added, none_added}
use Rattle.repair_update.proofs.add_to_subtree.Goals as goal

pub returns-then-f-eq0 : goal.returns-then-f-eq0
returns-then-f-eq0 c = none_added _ _ _ _ c.requires (λ e. omega (arith, c.field-f.ensures.is)) (λ e. omega (arith, c.field-f.ensures.is))

pub add_to_range-requires : goal.add_to_range-requires
add_to_range-requires c =
    rw (to_z-of_z c.ranges.x)
    (subtree_range _ _ _ _ c.requires _ _ _ _ c.field-f.ensures.is c.if-f-eq0.false c.if-f-gt2.false (omega arith) (omega arith) refl)

pub returns : goal.returns
returns c =
    subtree_added _ _ _ _ c.requires _ _ _ _ c.field-f.ensures.is c.if-f-eq0.false c.if-f-gt2.false (omega arith) (omega arith) refl _
    (rw (to_z-of_z c.ranges.x) at c.add_to_range.ensures.more) c.add_to_range.ensures.small
