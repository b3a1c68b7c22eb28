-- `mesh_sides::high_vertex` meets its contract: the highest of the corners passed is known. Assumes nothing.
use Rattle.mesh_sides.specs.HighestVertex.{highest_next, highest_tells}
use Rattle.mesh_sides.proofs.high_vertex.Goals as goal

pub loop-v-preserved : goal.loop-v-preserved
loop-v-preserved c = highest_next _ _ _ _ c.max-highest.ensures c.loop-v.invariant

pub returns : goal.returns
returns c = rw c.from.ensures (highest_tells _ _ _ _ c.requires c.loop-v-test.false c.loop-v.auto.v-index-end c.loop-v.invariant)
