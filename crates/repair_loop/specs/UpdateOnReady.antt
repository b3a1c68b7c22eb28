-- On a mesh that is ready bad triangles can be looked for, and the update of a raise can be made and moves what the raise moves. Assumes nothing.
use Rattle.std.specs.Prelude.{ℕ, ◌+◌, ◌-◌, ◌*◌, ◌≤◌, ◌<◌, ◌≡◌, false, List, length, ℤ, pos, nat_abs, ◌+ℤ◌, ◌*ℤ◌}
use Rattle.std.proofs.Common.{ap, ◌∙◌, arith}
use Rattle.definitions.specs.Backward.{coordinate}
use Rattle.definitions.specs.Repair.{limit}
use Rattle.definitions.specs.Refusals.{row10}
use Rattle.theory_realizer.specs.Units.{unit0, unit1}
use Rattle.scratch_tables.specs.Tables.{tables_of}
use Rattle.repair_model.specs.Raise.{Moved}
use Rattle.repair_model.specs.Update.{leads_in, moves-left, moves_right}
use Rattle.repair_model.specs.Ready.{Ready, org_low, rim_is, next_low, corners_low, by_first, by_second}
use Rattle.repair_search.specs.SearchLoops.{CornersIn, SearchPre}
use Rattle.repair_update.specs.WalkLoop.{UpdatePre, WalkMoved}

-- ---- to look for bad triangles

module _ (n : ℕ) (ts ls : List ℕ) (s : List ℤ) (Y : Ready n ts ls s) (room : 10 * n ≤ length s) (bs : List ℤ) (long : length bs ≡ 3 * n)
    (within : row10 bs ≡ false) where
  pub corners_in_lem : (t : ℕ) → 0 < t → t < 2 * n - 4 → CornersIn s bs t
  corners_in_lem t h k =
      let c = corners_low n ts ls s Y t h k in
      record {
        place = omega (arith, room);
        first = omega (arith, c.0);
        second = omega (arith, c.1);
        third = omega (arith, c.2);
        within = within;
      }

  pub search_pre : SearchPre s bs (2 * n - 4)
  search_pre =
      record {
        few = omega (arith, Y.most);
        room = omega (arith, room);
        corners = corners_in_lem;
        walks = λ c t b k. next_low n ts ls s Y c b t k;
      }

-- ---- to move subtrees

module _ (n : ℕ) (ts ls : List ℕ) (s : List ℤ) (Y : Ready n ts ls s) (t : ℕ) (above : 0 < t) (h : t < 2 * n - 4) where
  pub update_pre : (bs : List ℤ) (x : ℤ) → 10 * n ≤ length s → length bs ≡ 3 * n → row10 bs ≡ false → nat_abs x ≤ 2 * limit + 1 →
      UpdatePre n s bs t x
  update_pre bs x room long within light =
      record {
        least = Y.sphere.least;
        most = Y.most;
        room = room;
        long = long;
        within = within;
        inside = h;
        light = light;
        first = rw (rim_is n ts ls s Y 0 (omega arith)) (org_low n ts ls s Y 0);
        last = rw (rim_is n ts ls s Y 2 (omega arith)) (org_low n ts ls s Y 2);
        words =
            record {
              on = leads_in ts ls Y.sphere Y.size Y.realizer Y.tables Y.describes Y.stored Y.last Y.first
                  Y.most (tables_of s) Y.preordered;
              left = moves-left ts ls Y.sphere Y.size Y.realizer Y.tables Y.describes Y.stored Y.last Y.first
                  Y.most (tables_of s) Y.preordered;
              right = moves_right ts ls Y.sphere Y.size Y.realizer Y.tables Y.describes Y.stored Y.last Y.first
                  Y.most (tables_of s) Y.preordered;
            };
      }

  pub times_moved-moved : (x : ℤ) (bs bs' : List ℤ) → WalkMoved n (tables_of s) t x bs bs' →
      Moved n (unit0 n ts ls t) (unit1 n ts ls t) x bs bs'
  times_moved-moved x bs bs' M =
      record {
        long = M.long;
        more0 = λ i k. M.more0 i k ∙ ap (λ (m : ℕ). coordinate bs 0 i +ℤ pos m *ℤ x) (by_first n ts ls s Y t above h i k);
        more1 = λ i k. M.more1 i k ∙ ap (λ (m : ℕ). coordinate bs 1 i +ℤ pos m *ℤ x) (by_second n ts ls s Y t above h i k);
        same2 = M.same2;
      }
