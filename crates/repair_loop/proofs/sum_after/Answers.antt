-- `repair_loop::sum_after` meets its contract: the weight is one of those that the sum is of. Assumes nothing.
use Rattle.std.proofs.Common.{to_z-of_z}
use Rattle.repair_loop.specs.OneRaise.{here_held, raised_fits, raised_held, sum_without, sum_with}
use Rattle.repair_loop.proofs.sum_after.Goals as goal

pub overflow_sub-result : goal.overflow_sub-result
overflow_sub-result c = sum_without _ _ _ _ c.requires _ (rw (here_held _ _ _ _ c.requires) at c.unsigned_abs.ensures.value)

pub overflow_add-w : goal.overflow_add-w
overflow_add-w c = rw (to_z-of_z c.ranges.x) (raised_fits _ _ _ _ c.requires)

pub returns : goal.returns
returns c =
    sum_with _ _ _ _ c.requires _ _ (rw (here_held _ _ _ _ c.requires) at c.unsigned_abs.ensures.value)
    (rw (to_z-of_z c.ranges.x, raised_held _ _ _ _ c.requires) at c.unsigned_abs-2.ensures.value)
