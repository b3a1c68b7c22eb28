-- `labels_peel::remove_next` meets its contract. Assumes nothing.
use Rattle.std.proofs.Common.{arith, rules}
use Rattle.labels_model.proofs.Preconditions.{stands_search, stands_leave}
use Rattle.labels_peel.proofs.remove_next.Goals as goal

pub find_removable-v-requires : goal.find_removable-v-requires
find_removable-v-requires c = search (stands_search, rules)

pub remove_vertex-requires : goal.remove_vertex-requires
remove_vertex-requires c =
    rw c.find_removable-v.ensures.same.n
    (omega arith, stands_leave c.requires.1 c.find_removable-v.result _ c.requires.0 c.find_removable-v.ensures.found)
