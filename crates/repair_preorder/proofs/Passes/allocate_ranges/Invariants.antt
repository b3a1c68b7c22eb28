-- `repair_preorder::Passes::allocate_ranges` meets its contract. The loop's invariant: the rest of the pass gives what the whole gives. Assumes nothing.
use Rattle.std.proofs.Common.{◌≡◌, ◌-◌}
use Rattle.repair_preorder.specs.Passing.{tables, Same}
use Rattle.repair_preorder.specs.Model.{downward, allocate_range}
use Rattle.repair_preorder.proofs.Passes.allocate_ranges.Given as goal

abbrev pub invariant-loop-k : goal.invariant-loop-k
invariant-loop-k l = record {
  same : Same l.initial.self l.self;
  rest : downward (allocate_range l.colour) l.k (tables l.self) ≡ downward (allocate_range l.colour) (l.initial.self.n - 2) (tables l.initial.self);
}
