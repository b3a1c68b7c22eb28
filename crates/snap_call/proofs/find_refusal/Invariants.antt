-- `snap_call::find_refusal` meets its contract. The invariant: the shares behind have passed. Assumes nothing.
use Rattle.snap_call.specs.LoopLaws.{Looked}
use Rattle.snap_call.proofs.find_refusal.Given as goal

abbrev pub invariant-loop-share : goal.invariant-loop-share
invariant-loop-share l = Looked l.shares l.share-index
