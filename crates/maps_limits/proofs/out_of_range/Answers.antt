-- `maps_limits::out_of_range` meets its contract: the test of each entry is the definition's. Assumes nothing.
use Rattle.std.proofs.Common.{rules, tests, ltb, nat_abs, ℤ, ◌∙◌}
use Rattle.std.proofs.lemmas.Iterator.{YieldsList-from_slice}
use Rattle.std.proofs.lemmas.Iterator.Search.{any_from_yields_List}
use Rattle.definitions.specs.Repair.{limit}
use Rattle.definitions.specs.Refusals.{row10}
use Rattle.maps_limits.specs.Any.{any_is}
use Rattle.maps_limits.proofs.out_of_range.Goals as goal

pub returns : goal.returns
unfolding row10
returns c =
    let test = λ (b : ℤ). ltb limit (nat_abs b) in
    let xs = c.args.coordinates.now in
    any_from_yields_List test c.any.new.self _ c.any.result c.any.ensures.ran (YieldsList-from_slice xs cc) (λ x b q k. search (rules, tests))
    ∙ any_is test xs
