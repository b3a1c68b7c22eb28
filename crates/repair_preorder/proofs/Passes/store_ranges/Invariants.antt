-- `repair_preorder::Passes::store_ranges` meets its contract. The loop's invariant: so many triangles are done, the outer one among them. Assumes nothing.
use Rattle.repair_preorder.specs.Passing.{tables, Becomes}
use Rattle.repair_preorder.specs.Model.{upward, store_range}
use Rattle.repair_preorder.proofs.Passes.store_ranges.Given as goal

abbrev pub invariant-loop-t : goal.invariant-loop-t
invariant-loop-t l = Becomes l.initial.self l.self (upward (store_range l.colour) l.t (tables l.initial.self))
