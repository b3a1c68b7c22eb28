-- `labels_frontier::remove_vertex` meets its contract. Assumes nothing.
use Rattle.labels_frontier.specs.FrontierLaws.{room_of, leave_in, leave-left_small, leave_right_in, leave_asks, leave-passes}
use Rattle.labels_frontier.proofs.remove_vertex.Goals as goal

pub left_dart-g-requires : goal.left_dart-g-requires
left_dart-g-requires c = rw c.as_slice-words.ensures (leave_in c.requires.1 _ (room_of c.args.s.now))

pub tip-left-requires : goal.tip-left-requires
tip-left-requires c =
    rw c.as_slice-words.ensures
    (leave-left_small c.requires.1 _ _ (room_of c.args.s.now) (rw c.as_slice-words.ensures at c.left_dart-g.ensures.is))

pub right_dart-requires : goal.right_dart-requires
right_dart-requires c = rw c.as_slice-words.ensures (leave_in c.requires.1 _ (room_of c.args.s.now))

pub origin-right-requires : goal.origin-right-requires
origin-right-requires c =
    rw c.as_slice-words.ensures
    (leave_right_in c.requires.1 _ _ (room_of c.args.s.now) (rw c.as_slice-words.ensures at c.right_dart.ensures.is))

pub leave_frontier-requires : goal.leave_frontier-requires
leave_frontier-requires c =
    leave_asks c.requires.1 c.args.i _ _ _ _ (rw c.as_slice-words.ensures at c.left_dart-g.ensures.is)
    (rw c.as_slice-words.ensures at c.tip-left.ensures.is) (rw c.as_slice-words.ensures at c.right_dart.ensures.is)
    (rw c.as_slice-words.ensures at c.origin-right.ensures.is) c.requires.0

pub pass_fan-requires : goal.pass_fan-requires
pass_fan-requires c =
    rw c.leave_frontier.ensures.same.n
    (leave-passes c.requires.1 c.args.i _ _ _ _ (rw c.as_slice-words.ensures at c.left_dart-g.ensures.is)
    (rw c.as_slice-words.ensures at c.tip-left.ensures.is) (rw c.as_slice-words.ensures at c.right_dart.ensures.is)
    (rw c.as_slice-words.ensures at c.origin-right.ensures.is) _ c.leave_frontier.ensures.now)
