-- `repair_search::Drawing::first_bad` meets its contract: the triangles before the one found are not bad. Assumes nothing.
use Rattle.std.proofs.Common.{rules, true, false, ◌≡◌}
use Rattle.std.proofs.lemmas.Iterator.{first_from_Range}
use Rattle.scratch_tables.specs.Tables.{tables_of}
use Rattle.repair_model.specs.Search.{bad_at}
use Rattle.repair_search.specs.SearchLoops.{found_by}
use Rattle.repair_search.proofs.Drawing.first_bad.Goals as goal

pub returns-clause-found : goal.returns-clause-found
returns-clause-found c =
    let bad = bad_at (tables_of c.args.self.scratch.now) c.args.self.coordinates.now in
    found_by bad _ _ _ c.requires.1
    (first_from_Range _ _ _ _ (λ k. bad k ≡ true) (λ k. bad k ≡ false) c.find.ensures.ran (λ x q k. search rules) (λ x q k. search rules))
