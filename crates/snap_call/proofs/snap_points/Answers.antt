-- `snap_call::snap_points` meets its contract: each way out is a law of the definition. Assumes nothing.
use Rattle.std.proofs.Common.{sym}
use Rattle.std.proofs.lemmas.Result.{err_from_is_err_and}
use Rattle.snap_call.specs.ShareCases.{scale_bound}
use Rattle.snap_call.specs.CallOutcomes.{gives_size, gives_scale, gives_refusal, gives_done, shares_long, coordinates_long}
use Rattle.snap_call.proofs.snap_points.Goals as goal

pub returns-in_err-check_sizes : goal.returns-in_err-check_sizes
returns-in_err-check_sizes c =
    let a = c.args in
    let p = err_from_is_err_and c.from_residual.result c.from_residual.ensures.1 in
    let g = gives_size a.n a.shares.now a.scale a.coordinates.now _ c.in_err-check_sizes.ensures in
    rw (p.1, p.2) (record { answer = g.0; coordinates = g.1 })

pub returns-then-not-scale_allowed : goal.returns-then-not-scale_allowed
returns-then-not-scale_allowed c =
    let a = c.args in
    let g = gives_scale a.n a.shares.now a.scale a.coordinates.now c.in_ok-check_sizes.ensures c.if-not-scale_allowed.ensures in
    record { answer = g.0; coordinates = g.1 }

pub returns-in_err-find_refusal : goal.returns-in_err-find_refusal
returns-in_err-find_refusal c =
    let a = c.args in
    let r = c.from_residual-in_err-find_refusal in
    let p = err_from_is_err_and r.result r.ensures.1 in
    let g = gives_refusal a.n a.shares.now a.scale a.coordinates.now c.in_ok-check_sizes.ensures c.if-not-scale_allowed.ensures _
    c.in_err-find_refusal.ensures in
    rw (p.1, p.2) (record { answer = g.0; coordinates = g.1 })

pub write_points-requires : goal.write_points-requires
write_points-requires c =
    let sizes = c.in_ok-check_sizes.ensures in (
      scale_bound _ _ c.exact_scale.ensures c.if-not-scale_allowed.ensures,
      shares_long _ _ _ sizes,
      coordinates_long _ _ _ sizes,
      sym c.in_ok-find_refusal.ensures,
    )

pub returns : goal.returns
returns c =
    let a = c.args in
    let g = gives_done a.n a.shares.now a.scale a.coordinates.now c.in_ok-check_sizes.ensures c.if-not-scale_allowed.ensures c.in_ok-find_refusal.ensures
    _ c.exact_scale.ensures _ c.write_points.ensures in
    record { answer = g.0; coordinates = g.1 }
