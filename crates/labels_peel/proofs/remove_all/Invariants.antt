-- `labels_peel::remove_all` meets its contract: what is left of the removals comes to all of them. Assumes nothing.
use Rattle.labels_search.specs.Staged.{tables, Same}
use Rattle.labels_peel.specs.LoopLaws.{Removal}
use Rattle.labels_peel.proofs.remove_all.Given as goal

abbrev pub invariant-loop-i : goal.invariant-loop-i
invariant-loop-i l = record {
  same : Same l.initial.s l.s;
  removal : Removal l.initial.s.n (tables l.initial.s) (tables l.s) l.i;
}
