-- `repair_preorder::Passes::build_preorder` meets its contract, from those of the passes. Assumes nothing.
use Rattle.repair_preorder.specs.LoopInvariants.{sized_walks, placed_walks}
use Rattle.repair_preorder.proofs.Passes.build_preorder.Goals as goal

pub store_ranges-requires : goal.store_ranges-requires
store_ranges-requires c =
    let sizes = c.compute_sizes.ensures in
    let places = c.compute_positions.ensures in
    rw (places.same.n, sizes.same.n)
    (placed_walks _ _ _ _ _ (rw sizes.same.n at places.now) (sized_walks _ _ _ _ sizes.now c.requires.0), c.requires.1)
