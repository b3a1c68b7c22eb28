-- `repair_preorder::Passes::set_range_end` meets its contract: the words of the vertices that left stay. Assumes nothing.
use Rattle.repair_preorder.specs.LoopInvariants.{head_kept}
use Rattle.repair_preorder.proofs.Passes.set_range_end.Goals as goal

pub invariant_of-self : goal.invariant_of-self
invariant_of-self c = search head_kept
