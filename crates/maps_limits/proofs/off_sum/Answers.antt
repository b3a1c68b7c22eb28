-- `maps_limits::off_sum` meets its contract: the test of each vertex is the definition's. Assumes nothing.
use Rattle.std.proofs.Common.{arith, rules, tests, ℕ, not, refl, ◌∙◌}
use Rattle.std.proofs.lemmas.Iterator.{YieldsList-from_range}
use Rattle.std.proofs.lemmas.Iterator.Search.{any_from_yields_List}
use Rattle.maps_limits.specs.Any.{any_upto}
use Rattle.maps_limits.specs.Limits.{balanced, sums_are}
use Rattle.maps_limits.proofs.off_sum.Goals as goal

pub returns : goal.returns
returns c = λ ts ls l.
    let n = c.args.n in
    let N = c.total_of-total.result in
    let bs = c.args.coordinates.now in
    let test = λ (i : ℕ). not (balanced bs N i) in
    any_from_yields_List test c.any.new.self _ c.any.result c.any.ensures.ran (YieldsList-from_range 0 n n refl (omega arith))
    (λ x b q k. search (rules, tests))
    ∙ any_upto test n ∙ sums_are n bs _ N ts ls l c.total_of-total.ensures.is
