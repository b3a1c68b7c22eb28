-- `repair_loop::try_raise` meets its contract: past the limit nothing is stored, otherwise the weight is raised and its subtrees moved. Assumes nothing.
use Rattle.std.proofs.Common.{arith, refl, to_z-of_z}
use Rattle.repair_update.specs.Signed.{stored_sum}
use Rattle.repair_loop.specs.OneRaise.{sum_pre, raised_fits, add_pre, added, tried_made}
use Rattle.repair_loop.proofs.try_raise.Goals as goal

pub overflow_add-weights : goal.overflow_add-weights
overflow_add-weights c = rw (to_z-of_z c.ranges.x) (raised_fits _ _ _ _ (sum_pre _ _ _ _ _ _ _ c.requires))

pub returns : goal.returns
returns c =
    let sum = rw (to_z-of_z c.ranges.x) at c.sum_after-new.ensures in
    let moved = rw (to_z-of_z c.ranges.x) at c.add_raise.ensures in
    rw (to_z-of_z c.ranges.x) (
      omega arith,
      tried_made _ _ _ _ _ _ _ _ refl sum _ _ (omega arith) (added _ _ _ _ c.requires.positive
          (stored_sum _ _ _ (add_pre _ _ _ _ _ _ _ c.requires).1)) moved,
    )
