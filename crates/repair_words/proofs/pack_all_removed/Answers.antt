-- `repair_words::pack_all_removed` meets its contract. The loop's invariant: the vertices passed have their words, the others are as they were.
-- Assumes nothing.
use Rattle.std.proofs.Common.{arith}
use Rattle.repair_words.specs.LoopInvariants.{removed-next, removed_pre}
use Rattle.repair_words.proofs.pack_all_removed.Goals as goal

pub pack_removed-requires : goal.pack_removed-requires
pack_removed-requires c =
    let P = c.requires in
    removed_pre _ _ _ _ c.loop-k.invariant _ P.some P.few (omega (arith, P.room)) P.inside c.loop-k-test.true

pub loop-k-preserved : goal.loop-k-preserved
loop-k-preserved c = search removed-next
