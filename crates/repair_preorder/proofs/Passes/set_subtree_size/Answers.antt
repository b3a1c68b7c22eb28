-- `repair_preorder::Passes::set_subtree_size` meets its contract: the words of the vertices that left stay. Assumes nothing.
use Rattle.repair_preorder.specs.LoopInvariants.{mark_kept}
use Rattle.repair_preorder.proofs.Passes.set_subtree_size.Goals as goal

pub invariant_of-self : goal.invariant_of-self
invariant_of-self c = search mark_kept
