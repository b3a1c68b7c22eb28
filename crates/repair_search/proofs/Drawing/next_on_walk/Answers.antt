-- `repair_search::Drawing::next_on_walk` meets its contract: the tests, in the definition's order. Assumes nothing.
use Rattle.std.proofs.Common.{arith, ◌≢◌}
use Rattle.repair_search.specs.SearchLoops.{next_home, next-2, next-0, next-1}
use Rattle.repair_search.proofs.Drawing.next_on_walk.Goals as goal

pub returns-then-t-eq0 : goal.returns-then-t-eq0
returns-then-t-eq0 c = search next_home

pub returns-in-2 : goal.returns-in-2
returns-in-2 c = search next-2

pub returns-in-0 : goal.returns-in-0
returns-in-0 c = let other : c.args.c ≢ 2 = omega (arith, c.in-0.is) in search next-0

pub returns-in_default : goal.returns-in_default
returns-in_default c = search next-1
