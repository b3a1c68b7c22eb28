-- `repair_update::preorder_start` meets its contract: one of two columns. Assumes nothing.
use Rattle.repair_update.specs.WalkLoop.{preorder-left, preorder_right}
use Rattle.repair_update.proofs.preorder_start.Goals as goal

pub returns-then-f-eq1 : goal.returns-then-f-eq1
returns-then-f-eq1 c = search preorder-left

pub returns-else-f-eq1 : goal.returns-else-f-eq1
returns-else-f-eq1 c = search preorder_right
