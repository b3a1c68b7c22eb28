-- `labels_frontier::count_neighbours` meets its contract: the rest of the walk comes to the whole of it. Assumes nothing.
use Rattle.std.proofs.Common.{eqb, ◌*◌}
use Rattle.labels_model.specs.Turns.{steps_to}
use Rattle.labels_search.specs.Staged.{tables, Same}
use Rattle.labels_frontier.specs.FrontierLaws.{Walk}
use Rattle.labels_frontier.proofs.count_neighbours.Given as goal

abbrev pub invariant-loop-first : goal.invariant-loop-first
invariant-loop-first l = Same l.initial.s l.s × Walk l.initial.s.n l.first (tables l.initial.s) (tables l.s) l.d l.c

abbrev pub decreases-loop-first : goal.decreases-loop-first
decreases-loop-first l = steps_to (tables l.initial.s).turn (λ x. eqb ((tables l.initial.s).turn x) l.first) (6 * l.initial.s.n) l.d
