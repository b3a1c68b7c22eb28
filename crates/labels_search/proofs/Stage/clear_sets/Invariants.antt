-- `labels_search::Stage::clear_sets` meets its contract. The loop's invariant: the words passed are zero. Assumes nothing.
use Rattle.labels_search.specs.Sets.{cleared_below}
use Rattle.labels_search.specs.Stores.{with_sets}
use Rattle.labels_search.specs.Staged.{tables, Becomes}
use Rattle.labels_search.proofs.Stage.clear_sets.Given as goal

abbrev pub invariant-loop-i : goal.invariant-loop-i
invariant-loop-i l = Becomes l.initial.self l.self (with_sets (cleared_below l.i (tables l.initial.self).sets) (tables l.initial.self))
