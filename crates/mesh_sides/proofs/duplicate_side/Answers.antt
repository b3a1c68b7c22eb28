-- `mesh_sides::duplicate_side` meets its contract. The loop's invariant: the vertices from v on give what all of them give. Assumes nothing.
use Rattle.mesh_sides.specs.LoopInvariants.{scanning_start, scanning_at, scanning_found, scanning_next, scanning_none}
use Rattle.mesh_sides.proofs.duplicate_side.Goals as goal

pub loop-v-init : goal.loop-v-init
loop-v-init c = search scanning_start

pub mark_outgoing-requires : goal.mark_outgoing-requires
mark_outgoing-requires c = search scanning_at

pub returns-then-mark_outgoing : goal.returns-then-mark_outgoing
returns-then-mark_outgoing c = search scanning_found

pub loop-v-preserved : goal.loop-v-preserved
loop-v-preserved c = search scanning_next

pub returns : goal.returns
returns c = search scanning_none
