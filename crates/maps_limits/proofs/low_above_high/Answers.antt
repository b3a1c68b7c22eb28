-- `maps_limits::low_above_high` meets its contract: the test of each pair is the definition's at its place. Assumes nothing.
use Rattle.std.proofs.Common.{rules, tests, ℤ, ◌∙◌}
use Rattle.std.specs.Int.Signed.{lt_z}
use Rattle.std.proofs.lemmas.Iterator.{YieldsList-from_slice, YieldsList-from_zip}
use Rattle.std.proofs.lemmas.Iterator.Search.{any_from_yields_List}
use Rattle.maps_limits.specs.Limits.{pairs_are}
use Rattle.maps_limits.proofs.low_above_high.Goals as goal

pub returns : goal.returns
returns c =
    let test = λ (p : ℤ × ℤ). lt_z p.1 p.0 in
    let lows = c.args.lows.now in
    let highs = c.args.highs.now in
    any_from_yields_List test c.any.new.self _ c.any.result c.any.ensures.ran
    (YieldsList-from_zip (YieldsList-from_slice lows cc) (YieldsList-from_slice highs cc)) (λ x b q k. search (rules, tests))
    ∙ pairs_are lows highs c.requires
