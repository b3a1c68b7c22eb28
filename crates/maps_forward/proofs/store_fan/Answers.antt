-- `maps_forward::store_fan` meets its contract. The loop's invariant: what is left of the fan ends as the whole of it. It gets shorter with each dart.
-- Assumes nothing.
use Rattle.std.proofs.Common.{rules}
use Rattle.maps_forward.specs.LoopLaws.{fan-start, fan-next, fan-less, fan-stop}
use Rattle.maps_forward.proofs.store_fan.Goals as goal

pub loop-q-init : goal.loop-q-init
loop-q-init c = search (fan-start, rules)

pub loop-q-smaller : goal.loop-q-smaller
loop-q-smaller c = search fan-less

pub loop-q-preserved : goal.loop-q-preserved
loop-q-preserved c = search (fan-next, rules)

pub returns : goal.returns
returns c = search fan-stop
