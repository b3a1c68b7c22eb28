-- `maps_forward::write_third` meets its contract: three numbers within the limit leave their difference room. Assumes nothing.
use Rattle.std.proofs.Common.{ap, arith, set}
use Rattle.std.proofs.lemmas.Int.{ints}
use Rattle.maps_forward.specs.LoopLaws.{first-at, second_at}
use Rattle.maps_forward.proofs.write_third.Goals as goal

pub returns : goal.returns
returns c =
    let e = first-at c.args.coordinates.now c.args.v in
    let f = second_at c.args.coordinates.now c.args.v in
    ap (set _ _) (omega (arith, ints))
