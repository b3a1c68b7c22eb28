-- `maps_forward::write_thirds` meets its contract: each vertex passed has its third coordinate. Assumes nothing.
use Rattle.std.proofs.Common.{arith, rules}
use Rattle.std.proofs.lemmas.Int.{ints}
use Rattle.definitions.specs.Backward.{coordinate}
use Rattle.maps_forward_model.specs.Thirds.{thirds_next, thirds_small}
use Rattle.maps_forward.specs.LoopLaws.{first-at}
use Rattle.maps_forward.proofs.write_thirds.Goals as goal

pub write_third-requires : goal.write_third-requires
write_third-requires c =
    let e = first-at c.args.coordinates.now c.args.v0 in
    let total = c.requires.small 0 c.args.v0 (omega arith) (omega arith) in
    let small = thirds_small c.requires c.loop-v.invariant in
    (omega arith, omega (arith, ints), small 0 _ (omega arith) (omega arith), small 1 _ (omega arith) (omega arith))

pub loop-v-preserved : goal.loop-v-preserved
unfolding coordinate
loop-v-preserved c = search (rules, thirds_next)
