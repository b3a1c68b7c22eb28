-- `repair_preorder::Passes::store_entry` meets its contract: the words of the vertices that left stay. Assumes nothing.
use Rattle.repair_preorder.specs.LoopInvariants.{mark_kept}
use Rattle.repair_preorder.proofs.Passes.store_entry.Goals as goal

pub invariant_of-self-else-colour-eq0 : goal.invariant_of-self-else-colour-eq0
invariant_of-self-else-colour-eq0 c = search mark_kept
