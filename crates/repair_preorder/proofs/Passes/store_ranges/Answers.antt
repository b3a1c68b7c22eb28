-- `repair_preorder::Passes::store_ranges` meets its contract. The loop's invariant: so many triangles are done, the outer one among them. Assumes nothing.
use Rattle.repair_preorder.specs.LoopInvariants.{range_pre}
use Rattle.repair_preorder.proofs.Passes.store_ranges.Goals as goal

pub store_range-requires : goal.store_range-requires
store_range-requires c =
    let l = c.loop-t in
    let h = c.loop-t-test.true in
    rw l.invariant.same.n (l.auto.t, h, c.requires.1, range_pre _ _ _ _ _ l.invariant.now c.requires.0 l.auto.t h)
