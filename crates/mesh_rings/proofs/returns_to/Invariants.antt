-- `mesh_rings::returns_to` meets its contract. The loop's invariant: the turns from d on find what all turns find. Assumes nothing.
use Rattle.std.proofs.Common.{length}
use Rattle.mesh_tables.specs.Incidence.{incidence}
use Rattle.mesh_rings.specs.RingLoops.{Rotating}
use Rattle.mesh_rings.proofs.returns_to.Given as goal

abbrev pub invariant-loop : goal.invariant-loop
invariant-loop l = Rotating (length l.s) (incidence l.s).turn l.h l.k l.d l.counter
