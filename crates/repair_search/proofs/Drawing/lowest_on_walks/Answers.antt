-- `repair_search::Drawing::lowest_on_walks` meets its contract. The loop's invariant: none of the triangles passed is both bad and in the range that is
-- left. Assumes nothing.
use Rattle.std.proofs.Common.{arith, ◌≡◌, ◌<◌, ◌+◌, ◌-◌}
use Rattle.repair_search.specs.SearchLoops.{walks_begin, walks_stop, walks_home, walks_next}
use Rattle.repair_search.proofs.Drawing.lowest_on_walks.Goals as goal

pub returns-then-a-b-eq0 : goal.returns-then-a-b-eq0
returns-then-a-b-eq0 c = search walks_home

pub loop-init : goal.loop-init
loop-init c =
    let all : c.args.self.triangles - 0 ≡ c.args.self.triangles = omega arith in
    rw all (walks_begin _ _ _ _ _ c.requires.1)

pub loop-preserved : goal.loop-preserved
loop-preserved c =
    let left : c.args.self.triangles - (c.loop.counter + 1) ≡ c.args.self.triangles - c.loop.counter - 1 = omega arith in
    let some : 0 < c.args.self.triangles - c.loop.counter = omega arith in
    rw left (search walks_next)

pub returns : goal.returns
returns c = walks_stop _ _ _ _ _ _ _ _ _ _ c.loop.invariant (omega arith)
