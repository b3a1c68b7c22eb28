-- `repair_search::Drawing::lowest_on_walks` meets its contract. The loop's invariant: none of the triangles passed is both bad and in the range that is
-- left. Assumes nothing.
use Rattle.std.proofs.Common.{◌-◌}
use Rattle.scratch_tables.specs.Tables.{tables_of}
use Rattle.repair_model.specs.Search.{bad_at}
use Rattle.repair_search.specs.SearchLoops.{Walks}
use Rattle.repair_search.proofs.Drawing.lowest_on_walks.Given as goal

abbrev pub invariant-loop : goal.invariant-loop
invariant-loop l =
    Walks (tables_of l.self.scratch.now) (bad_at (tables_of l.self.scratch.now) l.self.coordinates.now) l.self.triangles l.full l.t
    (l.self.triangles - l.counter) l.a l.b l.d l.r
