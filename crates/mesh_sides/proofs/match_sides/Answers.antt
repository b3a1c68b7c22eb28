-- `mesh_sides::match_sides` meets its contract. The loop's invariant: the vertices from v on give what all of them give. Assumes nothing.
use Rattle.mesh_sides.specs.LoopInvariants.{matching_start, matching_at, matching_twice, marked_at, tied_ready, tied_round, matching_next}
use Rattle.mesh_sides.specs.LoopInvariants.{matching_later, matching_lacks, matching_none}
use Rattle.mesh_sides.proofs.match_sides.Goals as goal
use Rattle.mesh_sides.proofs.match_sides.Goals.{then-not-has_ring, else-not-has_ring}

pub loop-v-init : goal.loop-v-init
loop-v-init c = search matching_start

pub mark_outgoing-requires : goal.mark_outgoing-requires
mark_outgoing-requires c = search matching_at

pub returns-then-mark_outgoing : goal.returns-then-mark_outgoing
returns-then-mark_outgoing c = search matching_twice

pub match_incoming-requires : goal.match_incoming-requires
match_incoming-requires c =
    marked_at _ _ _ _ _ c.loop-v-test.true c.loop-v.invariant _ _ c.mark_outgoing.ensures c.requires
    c.mark_outgoing.auto.s

pub duplicate_side-requires : goal.duplicate_side-requires
duplicate_side-requires c =
    tied_ready _ _ _ _ _ c.loop-v-test.true c.loop-v.invariant _ _ c.mark_outgoing.ensures c.if-mark_outgoing.false
    c.mark_outgoing.auto.s _ _ c.match_incoming.ensures c.requires c.match_incoming.auto.s

pub returns-then-duplicate_side : goal.returns-then-duplicate_side
returns-then-duplicate_side c = search matching_later

pub returns-then-match_incoming : goal.returns-then-match_incoming
returns-then-match_incoming c = search matching_lacks

pub has_ring-requires : goal.has_ring-requires
has_ring-requires c =
    tied_round _ _ _ _ _ c.loop-v-test.true c.loop-v.invariant _ _ c.mark_outgoing.ensures c.if-mark_outgoing.false
    c.mark_outgoing.auto.s _ _ c.match_incoming.ensures c.requires c.match_incoming.auto.s

pub loop-v-preserved : goal.loop-v-preserved
loop-v-preserved c =
    let on =
    matching_next _ _ _ _ _ c.loop-v-test.true c.loop-v.invariant _ _ c.mark_outgoing.ensures c.if-mark_outgoing.false
    c.mark_outgoing.auto.s _ _ c.match_incoming.ensures c.if-match_incoming.false c.match_incoming.auto.s _ c.has_ring.ensures in
    elim c.if-not-has_ring.branch [
      | then-not-has_ring w ↦ rw w.rings-is (rw w.if-not-has_ring.true at on)
      | else-not-has_ring w ↦ rw w.rings-is (rw w.if-not-has_ring.false at on)
    ]

pub returns : goal.returns
returns c = search matching_none
