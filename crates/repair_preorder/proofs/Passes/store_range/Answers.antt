-- `repair_preorder::Passes::store_range` meets its contract: the words of the vertices that left stay. Assumes nothing.
use Rattle.repair_preorder.specs.LoopInvariants.{op_kept}
use Rattle.repair_preorder.proofs.Passes.store_range.Goals as goal

pub invariant_of-self : goal.invariant_of-self
invariant_of-self c = search op_kept
