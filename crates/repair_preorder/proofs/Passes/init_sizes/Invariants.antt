-- `repair_preorder::Passes::init_sizes` meets its contract. The loop's invariant: the vertices passed count for themselves. Assumes nothing.
use Rattle.repair_preorder.specs.Passing.{tables, Becomes}
use Rattle.repair_preorder.specs.Model.{upward, init_size}
use Rattle.repair_preorder.proofs.Passes.init_sizes.Given as goal

abbrev pub invariant-loop-v : goal.invariant-loop-v
invariant-loop-v l = Becomes l.initial.self l.self (upward init_size l.v (tables l.initial.self))
