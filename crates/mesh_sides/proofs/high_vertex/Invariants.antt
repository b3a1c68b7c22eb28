-- `mesh_sides::high_vertex` meets its contract: the highest of the corners passed is known. Assumes nothing.
use Rattle.mesh_sides.specs.HighestVertex.{Highest}
use Rattle.mesh_sides.proofs.high_vertex.Given as goal

abbrev pub invariant-loop-v : goal.invariant-loop-v
invariant-loop-v l = Highest l.triangles l.highest l.v-index
