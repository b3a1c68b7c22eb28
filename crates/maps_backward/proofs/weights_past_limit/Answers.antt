-- `maps_backward::weights_past_limit` meets its contract: each weight is that of the definition's triangle. Assumes nothing.
use Rattle.std.proofs.Common.{arith, rules, length, get_or, ◌*◌, ◌-◌, ◌≡◌, ◌<◌, pos}
use Rattle.labels_tables.specs.Peeling.{peeling}
use Rattle.std.proofs.lemmas.Int.{ints}
use Rattle.maps_limits.specs.Limits.{summed_more, summed_past, summed_all}
use Rattle.maps_backward.specs.Weights.{weights, length-weights, weights_is}
use Rattle.maps_backward.specs.Buffer.{keeping_more, keeping_all, next_triangle, kept-weight}
use Rattle.maps_backward.proofs.weights_past_limit.Goals as goal

pub weight_of-w-requires : goal.weight_of-w-requires
weight_of-w-requires c =
    let P = c.requires in (next_triangle _ _ _ _ _ c.loop-i.invariant.0 c.loop-i-test.true P.0.2 P.1, search rules, P.2)

pub returns-then-sum-gt-LIMIT-clause-past : goal.returns-then-sum-gt-LIMIT-clause-past
returns-then-sum-gt-LIMIT-clause-past c =
    let ws = weights c.args.coordinates.now (peeling c.args.scratch.now) (2 * c.args.n - 5) in
    let e : c.weight_of-w.result ≡ get_or ws c.loop-i.i (pos 0) =
    kept-weight _ _ _ _ _ c.loop-i.invariant.0 c.loop-i-test.true _ _ (search rules) c.weight_of-w.ensures in
    let h : c.loop-i.i < length ws = omega (arith, length-weights c.args.coordinates.now (peeling c.args.scratch.now) (2 * c.args.n - 5)) in
    let past = summed_past ws _ _ _ h (omega (arith, ints)) c.if-sum-gt-LIMIT.true c.loop-i.invariant.1 in
    λ ts ls d. rw (← weights_is d) past

pub loop-i-preserved : goal.loop-i-preserved
loop-i-preserved c =
    let ws = weights c.args.coordinates.now (peeling c.args.scratch.now) (2 * c.args.n - 5) in
    let e : c.weight_of-w.result ≡ get_or ws c.loop-i.i (pos 0) =
    kept-weight _ _ _ _ _ c.loop-i.invariant.0 c.loop-i-test.true _ _ (search rules) c.weight_of-w.ensures in
    let h : c.loop-i.i < length ws = omega (arith, length-weights c.args.coordinates.now (peeling c.args.scratch.now) (2 * c.args.n - 5)) in (
      keeping_more _ _ _ _ _ _ c.loop-i.invariant.0 (omega arith) (omega (arith, c.requires.0.2.room)) (search rules),
      summed_more ws _ _ _ h (omega (arith, ints)) c.if-sum-gt-LIMIT.false c.loop-i.invariant.1,
    )

pub returns-clause-past : goal.returns-clause-past
returns-clause-past c =
    let e = length-weights c.args.coordinates.now (peeling c.args.scratch.now) (2 * c.args.n - 5) in
    λ ts ls d. rw (← weights_is d) (summed_all _ _ _ (omega arith) c.loop-i.invariant.1)

pub returns-clause-kept : goal.returns-clause-kept
returns-clause-kept c =
    let e = length-weights c.args.coordinates.now (peeling c.args.scratch.now) (2 * c.args.n - 5) in
    λ f ts ls d. rw (← weights_is d) (keeping_all _ _ _ _ (omega arith) c.loop-i.invariant.0)
