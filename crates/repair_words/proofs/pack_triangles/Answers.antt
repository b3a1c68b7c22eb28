-- `repair_words::pack_triangles` meets its contract. The loop's invariant: the triangles passed have their words, the others are as they were. Assumes nothing.
use Rattle.std.proofs.Common.{arith}
use Rattle.repair_words.specs.LoopInvariants.{triangles-next, triangle_pre}
use Rattle.repair_words.proofs.pack_triangles.Goals as goal

pub pack_triangle-requires : goal.pack_triangle-requires
pack_triangle-requires c =
    let P = c.requires in
    triangle_pre _ _ _ _ c.loop-t.invariant P.inside c.loop-t.auto.t c.loop-t-test.true _ P.few (omega (arith, P.room))

pub loop-t-preserved : goal.loop-t-preserved
loop-t-preserved c = search triangles-next
