-- `labels_peel::remove_all` meets its contract: what is left of the removals comes to all of them. Assumes nothing.
use Rattle.std.proofs.Common.{arith}
use Rattle.labels_search.specs.Staged.{same_after}
use Rattle.labels_peel.specs.LoopLaws.{removal_on, removal_over}
use Rattle.labels_peel.proofs.remove_all.Goals as goal

pub remove_next-requires : goal.remove_next-requires
remove_next-requires c = rw c.loop-i.invariant.same.n (omega arith, c.loop-i.invariant.removal.stands (omega arith))

pub loop-i-preserved : goal.loop-i-preserved
loop-i-preserved c = record {
  same = same_after c.loop-i.invariant.same c.remove_next.ensures.same;
  removal = removal_on c.loop-i.invariant.removal _ (omega arith) (rw c.loop-i.invariant.same.n at c.remove_next.ensures.now);
}

pub returns : goal.returns
returns c = record {
  same = c.loop-i.invariant.same;
  now = removal_over c.loop-i.invariant.removal (omega arith);
}
