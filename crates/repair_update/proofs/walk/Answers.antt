-- `repair_update::walk` meets its contract. The loop's invariant: what the steps made have added and what the rest adds is what all of them add. Assumes
-- nothing.
use Rattle.std.proofs.Common.{arith, to_z-of_z, ◌≡◌, ◌+◌, ◌-◌}
use Rattle.repair_update.specs.WalkLoop.{walking_none, walking_home, walking_over, walking_next}
use Rattle.repair_update.proofs.walk.Goals as goal

pub loop-init : goal.loop-init
loop-init c =
    let all : c.args.steps - 0 ≡ c.args.steps = omega arith in
    rw (to_z-of_z c.ranges.x, all) (walking_none _ _ _ _ _ c.requires)

pub returns-then-at-eq0 : goal.returns-then-at-eq0
returns-then-at-eq0 c = rw (to_z-of_z c.ranges.x) at (walking_home c.loop.invariant c.if-at-eq0.true)

pub loop-preserved : goal.loop-preserved
loop-preserved c =
    let left : c.args.steps - (c.loop.counter + 1) ≡ c.args.steps - c.loop.counter - 1 = omega arith in
    rw left (search (walking_next, arith))

pub returns : goal.returns
returns c = rw (to_z-of_z c.ranges.x) at (walking_over c.loop.invariant (omega arith))
