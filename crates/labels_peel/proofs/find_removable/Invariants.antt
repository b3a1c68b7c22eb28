-- `labels_peel::find_removable` meets its contract: the rest of the search comes to the whole of it. Assumes nothing.
use Rattle.std.proofs.Common.{◌-◌}
use Rattle.labels_search.specs.Sets.{lowest}
use Rattle.labels_search.specs.Staged.{tables, Same}
use Rattle.labels_peel.specs.LoopLaws.{Search}
use Rattle.labels_peel.proofs.find_removable.Given as goal

abbrev pub invariant-loop-v : goal.invariant-loop-v
invariant-loop-v l = record { same : Same l.initial.s l.s; search : Search l.initial.s.n (tables l.initial.s) (tables l.s) }

abbrev pub decreases-loop-v : goal.decreases-loop-v
decreases-loop-v l = l.initial.s.n - lowest l.initial.s.n (tables l.s).sets
