-- `repair_preorder::Passes::allocate_ranges` meets its contract. The loop's invariant: the rest of the pass gives what the whole gives. Assumes nothing.
use Rattle.repair_preorder.specs.LoopInvariants.{down_next, down_ends}
use Rattle.repair_preorder.specs.Passing.{same_after}
use Rattle.repair_preorder.proofs.Passes.allocate_ranges.Goals as goal

pub loop-k-preserved : goal.loop-k-preserved
loop-k-preserved c = record {
  same = same_after c.loop-k.invariant.same c.allocate_range.ensures.same;
  rest = search down_next;
}

pub returns : goal.returns
returns c = record { same = c.loop-k.invariant.same; now = search down_ends }
