-- `labels_frontier::pass_fan` meets its contract: the rest of the fan comes to the whole of it. Assumes nothing.
use Rattle.labels_search.specs.Staged.{same_self, same_after}
use Rattle.labels_frontier.specs.FrontierLaws.{room_in, fan-start, fan_small, fan-here, fan-prev, fan_triangle, fan_enter, fan-over, fan-less, fan-on}
use Rattle.labels_frontier.proofs.pass_fan.Goals as goal

pub loop-right-init : goal.loop-right-init
loop-right-init c = (same_self _, fan-start _ _ _ _ c.requires)

pub prev_dart-p-requires : goal.prev_dart-p-requires
prev_dart-p-requires c = fan_small c.loop-right.invariant.1 _ (room_in c.loop-right.invariant.0)

pub origin-u-requires : goal.origin-u-requires
origin-u-requires c =
    rw c.as_slice-words.ensures (fan-prev c.loop-right.invariant.1 _ _ (room_in c.loop-right.invariant.0) c.prev_dart-p.ensures)

pub turn-h-requires : goal.turn-h-requires
turn-h-requires c = rw c.as_slice-words.ensures (fan-here c.loop-right.invariant.1 _ (room_in c.loop-right.invariant.0))

pub pass_triangle-requires : goal.pass_triangle-requires
pass_triangle-requires c = fan_triangle c.loop-right.invariant.1 _ (room_in c.loop-right.invariant.0)

pub returns-then-u-right : goal.returns-then-u-right
returns-then-u-right c = record {
  same = record { n = c.loop-right.invariant.0.n; words = c.loop-right.invariant.0.words };
  now = fan-over c.loop-right.invariant.1 _ _ _ c.prev_dart-p.ensures (rw c.as_slice-words.ensures at c.origin-u.ensures.is)
      (rw c.as_slice-words.ensures at c.turn-h.ensures.is) c.pass_triangle.ensures c.if-u-right.true;
}

pub enter_frontier-requires : goal.enter_frontier-requires
enter_frontier-requires c =
    rw c.loop-right.invariant.0.n
    (fan_enter c.loop-right.invariant.1 _ _ _ c.prev_dart-p.ensures (rw c.as_slice-words.ensures at c.origin-u.ensures.is) c.pass_triangle.ensures)

pub loop-right-smaller : goal.loop-right-smaller
loop-right-smaller c =
    fan-less c.loop-right.invariant.1 _ _ _ c.prev_dart-p.ensures (rw c.as_slice-words.ensures at c.origin-u.ensures.is)
    (rw c.as_slice-words.ensures at c.turn-h.ensures.is) c.pass_triangle.ensures c.if-u-right.false

pub loop-right-preserved : goal.loop-right-preserved
loop-right-preserved c = (
  same_after c.loop-right.invariant.0 (record { n = c.enter_frontier.ensures.same.n; words = c.enter_frontier.ensures.same.words }),
  fan-on c.loop-right.invariant.1 _ _ _ c.prev_dart-p.ensures (rw c.as_slice-words.ensures at c.origin-u.ensures.is)
      (rw c.as_slice-words.ensures at c.turn-h.ensures.is) c.pass_triangle.ensures _ (rw c.loop-right.invariant.0.n at c.enter_frontier.ensures.now)
      c.if-u-right.false,
)
