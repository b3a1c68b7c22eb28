-- `labels_frontier::count_neighbours` meets its contract: the rest of the walk comes to the whole of it. Assumes nothing.
use Rattle.labels_search.specs.Staged.{same_self, same_after}
use Rattle.labels_frontier.specs.FrontierLaws.{room_of, room_in, walk_start, walk-prev, walk_asks, walk-over, walk-less, walk-on}
use Rattle.labels_frontier.proofs.count_neighbours.Goals as goal

pub loop-first-init : goal.loop-first-init
loop-first-init c = (same_self _, walk_start _ _ _ _ (room_of c.args.s.now) c.requires)

pub origin-w-requires : goal.origin-w-requires
origin-w-requires c =
    rw c.as_slice-words.ensures (walk-prev c.loop-first.invariant.1 _ _ (room_in c.loop-first.invariant.0) c.prev_dart.ensures)

pub count_neighbour-c-requires : goal.count_neighbour-c-requires
count_neighbour-c-requires c =
    rw c.loop-first.invariant.0.n
    (walk_asks c.loop-first.invariant.1 _ _ c.prev_dart.ensures (rw c.as_slice-words.ensures at c.origin-w.ensures.is))

pub returns-then-h-first-clause-counted : goal.returns-then-h-first-clause-counted
returns-then-h-first-clause-counted c =
    (walk-over c.loop-first.invariant.1 _ _ _ _ c.prev_dart.ensures (rw c.as_slice-words.ensures at c.origin-w.ensures.is)
    (rw c.as_slice-words.ensures at c.turn-h.ensures.is) (rw c.loop-first.invariant.0.n at c.count_neighbour-c.ensures.counted) c.if-h-first.true).0

pub returns-then-h-first-clause-few : goal.returns-then-h-first-clause-few
returns-then-h-first-clause-few c =
    (walk-over c.loop-first.invariant.1 _ _ _ _ c.prev_dart.ensures (rw c.as_slice-words.ensures at c.origin-w.ensures.is)
    (rw c.as_slice-words.ensures at c.turn-h.ensures.is) (rw c.loop-first.invariant.0.n at c.count_neighbour-c.ensures.counted) c.if-h-first.true).1

pub loop-first-smaller : goal.loop-first-smaller
loop-first-smaller c =
    walk-less c.loop-first.invariant.1 _ _ _ _ c.prev_dart.ensures (rw c.as_slice-words.ensures at c.origin-w.ensures.is)
    (rw c.as_slice-words.ensures at c.turn-h.ensures.is) (rw c.loop-first.invariant.0.n at c.count_neighbour-c.ensures.counted) c.if-h-first.false

pub loop-first-preserved : goal.loop-first-preserved
loop-first-preserved c = (
  same_after c.loop-first.invariant.0 c.count_neighbour-c.ensures.same,
  walk-on c.loop-first.invariant.1 _ _ _ _ c.prev_dart.ensures (rw c.as_slice-words.ensures at c.origin-w.ensures.is)
      (rw c.as_slice-words.ensures at c.turn-h.ensures.is) (rw c.loop-first.invariant.0.n at c.count_neighbour-c.ensures.counted) c.if-h-first.false,
)
