-- `mesh_rings::returns_to` meets its contract. The loop's invariant: the turns from d on find what all turns find. Assumes nothing.
use Rattle.mesh_rings.specs.RingLoops.{rotating_back, rotating_next, rotating_none}
use Rattle.mesh_rings.proofs.returns_to.Goals as goal

pub returns-then-d-h : goal.returns-then-d-h
returns-then-d-h c = search rotating_back

pub loop-preserved : goal.loop-preserved
loop-preserved c = search rotating_next

pub returns : goal.returns
returns c = search rotating_none
