-- `repair_preorder::Passes::accumulate_sizes` meets its contract. The loop's invariant: so many steps of the pass are done. Assumes nothing.
use Rattle.repair_preorder.specs.Passing.{tables, Becomes}
use Rattle.repair_preorder.specs.Model.{upward, add_size}
use Rattle.repair_preorder.proofs.Passes.accumulate_sizes.Given as goal

abbrev pub invariant-loop-k : goal.invariant-loop-k
invariant-loop-k l = Becomes l.initial.self l.self (upward (add_size l.colour) l.k (tables l.initial.self))
