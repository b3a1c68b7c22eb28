-- `mesh_rings::check_rings` meets its contract. The loop's invariant: the vertices from v on find what all of them find. Assumes nothing.
use Rattle.mesh_tables.specs.Incidence.{incidence}
use Rattle.mesh_rings.specs.RingLoops.{Testing}
use Rattle.mesh_rings.proofs.check_rings.Given as goal

abbrev pub invariant-loop-v : goal.invariant-loop-v
invariant-loop-v l = Testing (incidence l.s) l.n l.v
