-- `labels_peel::clear_vertices` meets its contract: what is left to wipe comes to the whole. Assumes nothing.
use Rattle.std.proofs.Common.{◌≡◌, ◌-◌}
use Rattle.labels_model.specs.Model.{clear_vertices}
use Rattle.labels_search.specs.Staged.{tables, Same}
use Rattle.labels_peel.proofs.clear_vertices.Given as goal

abbrev pub invariant-loop-v : goal.invariant-loop-v
invariant-loop-v l = record {
  same : Same l.initial.s l.s;
  rest : clear_vertices (l.initial.s.n - l.v) l.v (tables l.s) ≡ clear_vertices l.initial.s.n 0 (tables l.initial.s);
}
