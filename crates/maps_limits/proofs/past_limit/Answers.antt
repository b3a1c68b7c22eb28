-- `maps_limits::past_limit` meets its contract. The loop's invariant: the sum so far and the absolute values still to come make up the whole, and the sum is
-- within the limit. Assumes nothing.
use Rattle.std.proofs.Common.{arith, rules, SFits, get_or, pos}
use Rattle.std.specs.Int.{w64}
use Rattle.std.proofs.lemmas.Int.{ints}
use Rattle.maps_limits.specs.Limits.{summed_more, summed_past, summed_all}
use Rattle.maps_limits.proofs.past_limit.Goals as goal

pub returns-then-sum-gt-LIMIT : goal.returns-then-sum-gt-LIMIT
returns-then-sum-gt-LIMIT c =
    let f : SFits w64 (get_or c.args.weights.now c.loop-w.w-index (pos 0)) = search rules in
    summed_past _ _ _ _ c.loop-w-test.true (omega (arith, ints)) c.if-sum-gt-LIMIT.true c.loop-w.invariant

pub loop-w-preserved : goal.loop-w-preserved
loop-w-preserved c =
    let f : SFits w64 (get_or c.args.weights.now c.loop-w.w-index (pos 0)) = search rules in
    summed_more _ _ _ _ c.loop-w-test.true (omega (arith, ints)) c.if-sum-gt-LIMIT.false c.loop-w.invariant

pub returns : goal.returns
returns c = search (rules, summed_all)
