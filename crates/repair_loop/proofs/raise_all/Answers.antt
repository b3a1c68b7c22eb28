-- `repair_loop::raise_all` meets its contract. The loop's invariant: the definition's loop goes on from here. The measure is the definition's fuel, which
-- never runs out. Assumes nothing.
use Rattle.std.proofs.Common.{arith, rules, ◌∙◌, ◌<◌, ◌*◌, ◌-◌}
use Rattle.int64.specs.Whole.{held}
use Rattle.repair_loop.specs.LoopInvariants.{Loops, start_search, start_some, loops-begin, now, can_search, positive, can_raise, fueled, next_search}
use Rattle.repair_loop.specs.LoopInvariants.{loops_again, loop_stops, loop_ends}
use Rattle.repair_loop.proofs.raise_all.Goals as goal
use Rattle.repair_loop.proofs.raise_all.Goals.{In-Some}

pub new-requires : goal.new-requires
new-requires c = search start_search

pub first_bad-next-requires : goal.first_bad-next-requires
first_bad-next-requires c = search (start_some, rules)

pub loop-next-init : goal.loop-next-init
loop-next-init c =
    let d = c.new.ensures in
    record {
      found = loops-begin _ _ _ _ _ _ c.requires _ (rw (d.scratch, d.coordinates, d.triangles) at c.first_bad-next.ensures.found);
      inside = rw d.triangles at c.first_bad-next.ensures.inside;
    }

-- the loop at the bad triangle t, which is an inner one
at_bad : (c : In-Some) → Loops c.args.n c.args.scratch.now c.args.weights.now c.args.coordinates.now c.args.sum c.args.raised c.loop-next.weights
    c.loop-next.coordinates c.loop-next.total c.loop-next.count c.loop-next.full c.in-Some.t
at_bad c = rw c.in-Some.is at c.loop-next.invariant.found

inner : (c : In-Some) → c.in-Some.t < 2 * c.args.n - 4
inner c = rw c.in-Some.is at c.loop-next.invariant.inside

pub new-requires-in-Some : goal.new-requires-in-Some
new-requires-in-Some c = can_search _ _ _ _ _ _ c.requires _ _ _ _ _ _ (at_bad c)

pub raise_at-x-requires : goal.raise_at-x-requires
raise_at-x-requires c =
    let i = (goal.at.raise_at-x-requires c).In-Some in
    (positive _ _ _ _ _ _ c.requires _ _ _ _ _ _ (at_bad i), rw c.new-in-Some.ensures.triangles (inner i))

pub try_raise-requires : goal.try_raise-requires
try_raise-requires c =
    let i = (goal.at.try_raise-requires c).In-Some in
    let d = c.new-in-Some.ensures in
    let x = held _ c.raise_at-x.type_inv ∙ rw (d.scratch, d.coordinates) at c.raise_at-x.ensures.is in
    can_raise _ _ _ _ _ _ c.requires _ _ _ _ _ _ (at_bad i) (inner i) _ x

pub returns-in_default-try_raise : goal.returns-in_default-try_raise
returns-in_default-try_raise c =
    let i = (goal.at.returns-in_default-try_raise c).In-Some in
    let d = c.new-in-Some.ensures in
    let x = held _ c.raise_at-x.type_inv ∙ rw (d.scratch, d.coordinates) at c.raise_at-x.ensures.is in
    let tried = c.in_default-try_raise.ensures in
    loop_stops _ _ _ _ _ _ c.requires _ _ _ _ _ _ (at_bad i) (inner i) _ x _ _ _ tried.2 tried.1

pub overflow_add-count : goal.overflow_add-count
overflow_add-count c =
    let i = (goal.at.overflow_add-count c).In-Some in
    omega (arith, fueled _ _ _ _ _ _ c.requires _ _ _ _ _ _ (at_bad i), start_some _ _ _ _ _ _ c.requires)

pub new-requires-in-Some-2 : goal.new-requires-in-Some-2
new-requires-in-Some-2 c =
    let i = (goal.at.new-requires-in-Some-2 c).In-Some in
    let d = c.new-in-Some.ensures in
    let x = held _ c.raise_at-x.type_inv ∙ rw (d.scratch, d.coordinates) at c.raise_at-x.ensures.is in
    let tried = c.in-Some-try_raise.ensures in
    next_search _ _ _ _ _ _ c.requires _ _ _ _ _ _ (at_bad i) (inner i) _ x _ _ _ tried.1 tried.0 (search)

pub next_bad-next-requires : goal.next_bad-next-requires
next_bad-next-requires c =
    let i = (goal.at.next_bad-next-requires c).In-Some in
    let S = now _ _ _ _ _ _ c.requires _ _ _ _ _ _ (at_bad i) in
    (S.reached.positive, S.lower, rw c.new-in-Some-2.ensures.triangles (inner i))

pub loop-next-smaller : goal.loop-next-smaller
loop-next-smaller c = omega (arith, fueled _ _ _ _ _ _ c.requires _ _ _ _ _ _ (at_bad (goal.at.loop-next-smaller c).In-Some))

pub loop-next-preserved : goal.loop-next-preserved
loop-next-preserved c =
    let i = (goal.at.loop-next-preserved c).In-Some in
    let d = c.new-in-Some.ensures in
    let e = c.new-in-Some-2.ensures in
    let x = held _ c.raise_at-x.type_inv ∙ rw (d.scratch, d.coordinates) at c.raise_at-x.ensures.is in
    let tried = c.in-Some-try_raise.ensures in
    record {
      found = loops_again _ _ _ _ _ _ c.requires _ _ _ _ _ _ (at_bad i) (inner i) _ x _ _ _ tried.1 tried.0 (search) (search) _ _
          (rw (e.scratch, e.coordinates, e.triangles) at c.next_bad-next.ensures.next) (search);
      inside = rw e.triangles at c.next_bad-next.ensures.inside;
    }

pub returns : goal.returns
returns c = loop_ends _ _ _ _ _ _ c.requires _ _ _ _ _ _ (rw c.in_default.is at c.loop-next.invariant.found) (omega arith)
