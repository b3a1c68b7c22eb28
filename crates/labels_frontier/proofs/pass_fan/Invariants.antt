-- `labels_frontier::pass_fan` meets its contract: the rest of the fan comes to the whole of it. Assumes nothing.
use Rattle.std.proofs.Common.{eqb, ◌*◌}
use Rattle.definitions.specs.Mesh.{prev}
use Rattle.labels_model.specs.Turns.{steps_to}
use Rattle.labels_search.specs.Staged.{tables, Same}
use Rattle.labels_frontier.specs.FrontierLaws.{Fan}
use Rattle.labels_frontier.proofs.pass_fan.Given as goal

abbrev pub invariant-loop-right : goal.invariant-loop-right
invariant-loop-right l = Same l.initial.s l.s × Fan l.initial.s.n l.right l.first (tables l.initial.s) (tables l.s) l.g

abbrev pub decreases-loop-right : goal.decreases-loop-right
decreases-loop-right l = steps_to (tables l.initial.s).turn (λ x. eqb ((tables l.initial.s).origin (prev x)) l.right) (6 * l.initial.s.n) l.g
