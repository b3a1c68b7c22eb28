-- `labels_peel::find_removable` meets its contract: the rest of the search comes to the whole of it. Assumes nothing.
use Rattle.std.proofs.Common.{sym, ◌∙◌}
use Rattle.labels_search.specs.Staged.{same_self, same_after}
use Rattle.labels_frontier.specs.FrontierLaws.{room_in}
use Rattle.labels_peel.specs.LoopLaws.{search_start, search_asks, search_vertex, search_over, search_less, search_on}
use Rattle.labels_peel.proofs.find_removable.Goals as goal

pub loop-v-init : goal.loop-v-init
loop-v-init c = record { same = same_self _; search = search_start _ _ c.requires }

pub take_lowest-v-requires : goal.take_lowest-v-requires
take_lowest-v-requires c = rw c.loop-v.invariant.same.n (search_asks c.loop-v.invariant.search)

pub is_removable-requires : goal.is_removable-requires
is_removable-requires c =
    rw c.as_slice.ensures
    (search_vertex c.loop-v.invariant.search _ _ (room_in (same_after c.loop-v.invariant.same c.take_lowest-v.ensures.tables.same))
    (rw c.loop-v.invariant.same.n at c.take_lowest-v.ensures.is))

pub returns-then-is_removable : goal.returns-then-is_removable
returns-then-is_removable c = record {
  same = same_after c.loop-v.invariant.same c.take_lowest-v.ensures.tables.same;
  found = search_over c.loop-v.invariant.search _ _ (rw c.loop-v.invariant.same.n at c.take_lowest-v.ensures.is)
      (rw c.loop-v.invariant.same.n at c.take_lowest-v.ensures.tables.now)
      (sym c.if-is_removable.true ∙ (rw c.as_slice.ensures at c.is_removable.ensures));
}

pub loop-v-smaller : goal.loop-v-smaller
loop-v-smaller c =
    search_less c.loop-v.invariant.search _ _ (rw c.loop-v.invariant.same.n at c.take_lowest-v.ensures.is)
    (rw c.loop-v.invariant.same.n at c.take_lowest-v.ensures.tables.now)
    (sym c.if-is_removable.false ∙ (rw c.as_slice.ensures at c.is_removable.ensures))

pub loop-v-preserved : goal.loop-v-preserved
loop-v-preserved c = record {
  same = same_after c.loop-v.invariant.same c.take_lowest-v.ensures.tables.same;
  search = search_on c.loop-v.invariant.search _ _ (rw c.loop-v.invariant.same.n at c.take_lowest-v.ensures.is)
      (rw c.loop-v.invariant.same.n at c.take_lowest-v.ensures.tables.now)
      (sym c.if-is_removable.false ∙ (rw c.as_slice.ensures at c.is_removable.ensures));
}
