-- `repair_loop::repair_labelled` meets its contract, from those of its parts. Assumes nothing.
use Rattle.std.proofs.Common.{arith}
use Rattle.repair_preorder.specs.ForestOfMesh.{preorder_pre}
use Rattle.repair_loop.specs.Start.{pack_pre, all_ready, ready_pre}
use Rattle.repair_loop.proofs.repair_labelled.Goals as goal

pub pack_words-requires : goal.pack_words-requires
pack_words-requires c = search pack_pre

pub build_preorders-requires : goal.build_preorders-requires
build_preorders-requires c = preorder_pre c.requires.peeled _ c.pack_words.ensures.packed (omega (arith, c.requires.peeled.labelled.room))

pub raise_and_draw-requires : goal.raise_and_draw-requires
raise_and_draw-requires c =
    ready_pre _ _ _ _ c.pack_words.ensures.packed c.pack_words.ensures.walks_packed c.build_preorders.ensures _ _ _ _
    c.requires (cc) (c.write_coordinates.ensures c.requires.triangles c.requires.labels c.requires.peeled) c.sum_of_absolutes-sum.ensures

pub returns : goal.returns
returns c ts ls P =
    c.raise_and_draw.ensures ts ls
    (all_ready _ _ _ _ c.pack_words.ensures.packed c.pack_words.ensures.walks_packed c.build_preorders.ensures ts ls P)
    (c.write_coordinates.ensures ts ls P)
