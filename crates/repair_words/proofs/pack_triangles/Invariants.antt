-- `repair_words::pack_triangles` meets its contract. The loop's invariant: the triangles passed have their words, the others are as they were. Assumes nothing.
use Rattle.scratch_tables.specs.Tables.{tables_of}
use Rattle.repair_words.specs.LoopInvariants.{TrianglesPacked}
use Rattle.repair_words.proofs.pack_triangles.Given as goal

abbrev pub invariant-loop-t : goal.invariant-loop-t
invariant-loop-t l = TrianglesPacked l.n (tables_of l.initial.scratch) (tables_of l.scratch) l.t
