-- `repair_words::pack_all_removed` meets its contract. The loop's invariant: the vertices passed have their words, the others are as they were.
-- Assumes nothing.
use Rattle.scratch_tables.specs.Tables.{tables_of}
use Rattle.repair_words.specs.LoopInvariants.{RemovedPacked}
use Rattle.repair_words.proofs.pack_all_removed.Given as goal

abbrev pub invariant-loop-k : goal.invariant-loop-k
invariant-loop-k l = RemovedPacked l.n (tables_of l.initial.scratch) (tables_of l.scratch) l.k
