-- `repair_preorder::Passes::store_vertices` meets its contract. The loop's invariant: so many steps of the pass are done. Assumes nothing.
use Rattle.repair_preorder.specs.Passing.{tables, Becomes}
use Rattle.repair_preorder.specs.Model.{upward, store_vertex}
use Rattle.repair_preorder.proofs.Passes.store_vertices.Given as goal

abbrev pub invariant-loop-k : goal.invariant-loop-k
invariant-loop-k l = Becomes l.initial.self l.self (upward (store_vertex l.initial.self.n l.colour) l.k (tables l.initial.self))
