-- All of repair's raises: by the total the loop is entered at once, or after the first raise, or not at all; and once it has ended the third coordinates are
-- written. Assumes nothing.
use Rattle.std.specs.Prelude.{ℕ, ◌+◌, ◌-◌, ◌*◌, ◌≤◌, ◌<◌, ◌≡◌, true, false, length, ℤ, pos, nat_abs, ◌-ℤ◌, ◌<ℤ◌, Result, Err}
use Rattle.std.proofs.Math.Path.{refl, ap}
use Rattle.std.proofs.Common.{◌∙◌, arith}
use mathlib.Core.List.{List, []}
use Rattle.std.specs.Int.Signed.{le_z}
use Rattle.definitions.specs.Lists.{total}
use Rattle.definitions.specs.Mesh.{weights_length, org}
use Rattle.definitions.specs.Labels.{outer}
use Rattle.definitions.specs.Forward.{forward}
use Rattle.definitions.specs.Backward.{coordinate}
use Rattle.definitions.specs.Repair.{limit, max_z, stopped, repair}
use Rattle.definitions.specs.Refusals.{row10, repair_answer}
use Rattle.laws.specs.Ring.{le_z-true, le_z-false}
use Rattle.theory_realizer.specs.Units.{Units}
use Rattle.theory_crossings.specs.UnitMaps.{units}
use Rattle.theory_repair.specs.Coordinates.{length-forward}
use Rattle.theory_repair.specs.Bounds.{outer-total, row10-forward}
use Rattle.theory_repair.specs.Repairs.{light_9}
use Rattle.theory_repair.proofs.Repairs.{repair-outcome}
use Rattle.scratch_tables.specs.Tables.{tables_of, dart_in}
use Rattle.labels_tables.specs.Peeling.{peeling}
use Rattle.int64.specs.Whole.{abs_minus}
use Rattle.maps_limits.specs.Limits.{coordinate-range}
use Rattle.maps_forward_model.specs.Thirds.{ThirdsPre, ThirdsWritten}
use Rattle.repair_area.specs.Areas.{abs_max}
use Rattle.repair_model.specs.Raise.{Drawn, drawn_within, drawn_all}
use Rattle.repair_model.specs.Search.{raise_at}
use Rattle.repair_model.specs.Ready.{Ready, org_low, rim_is, raise_room}
use Rattle.repair_model.specs.LoopState.{Reached}
use Rattle.repair_model.specs.FirstRaise.{drawn_lent, reached_straight, stops_first, reached-first}
use Rattle.repair_search.specs.SearchLoops.{SearchPre}
use Rattle.repair_loop.specs.OneRaise.{RaisePre, Tried, LoopPre, ReadyPre, FirstPre}
use Rattle.repair_loop.specs.UpdateOnReady.{search_pre, update_pre, times_moved-moved}
use Rattle.repair_loop.specs.declared.Stopped.{Stopped}
use Rattle.repair_loop.specs.Answer.{Halts, Ends, halts_by}

module _ (n : ℕ) (s ws₀ bs₀ : List ℤ) (sum : ℕ) (M : ReadyPre n ws₀ bs₀ s sum) where
  abbrev ts : List ℕ
  ts = M.triangles

  abbrev ls : List ℕ
  ls = M.labels

  unit_maps : Units n ts ls
  unit_maps = units ts ls M.ready.sphere M.ready.size M.ready.realizer

  within : row10 bs₀ ≡ false
  within = rw M.drawn (row10-forward n ts ls M.ready.size unit_maps ws₀ M.long (light_9 ws₀ M.light))

  long : length bs₀ ≡ 3 * n
  long = ap length M.drawn ∙ length-forward n ts ls ws₀

  pub first-there : dart_in (length s) 0
  first-there = omega (arith, M.room, M.ready.sphere.least)

  module _ (v0 : ℕ) (e0 : v0 ≡ (peeling s).origin 0) where
    -- ---- the total

    v0_low : v0 < n
    v0_low = rw (e0 ∙ rim_is n ts ls s M.ready 0 (omega arith)) (org_low n ts ls s M.ready 0)

    pub total-there : 3 * v0 + 0 < length bs₀
    total-there = omega (arith, v0_low, long)

    -- coordinate 0 of v0 is the total of the weights that are drawn
    drawn_total : (ts ls : List ℕ) → Ready n ts ls s → (ws bs : List ℤ) → length ws ≡ weights_length n → Drawn n ts ls ws bs →
        coordinate bs 0 v0 ≡ total ws
    unfolding outer
    drawn_total ts ls Y ws bs long D =
        ap (coordinate bs 0) (e0 ∙ rim_is n ts ls s Y 0 (omega arith)) ∙ D.same 0 (org ts 0) (omega arith) (org_low n ts ls s Y 0)
        ∙ outer-total n ts ls Y.size (units ts ls Y.sphere Y.size Y.realizer) ws long (λ e k. org_low n ts ls s Y e)

    total_is : (ts ls : List ℕ) → Ready n ts ls s → bs₀ ≡ forward n ts ls ws₀ → coordinate bs₀ 0 v0 ≡ total ws₀
    total_is ts ls Y d = drawn_total ts ls Y ws₀ bs₀ M.long (drawn_lent n ts ls ws₀ bs₀ s Y M.long M.light d)

    module _ (N : ℤ) (e_n : N ≡ coordinate bs₀ 0 v0) where
      -- ---- it is 1 or more

      module _ (enough : le_z (pos 1) N ≡ true) where
        reached-0 : (ts ls : List ℕ) → Ready n ts ls s → bs₀ ≡ forward n ts ls ws₀ → Reached n ts ls ws₀ ws₀ bs₀ s sum 0 1
        reached-0 ts ls Y d =
            reached_straight n ts ls ws₀ bs₀ s Y M.long M.light d (le_z-true (pos 1) (total ws₀) (rw (e_n ∙ total_is ts ls Y d) at enough)) sum M.summed

        pub straight_pre : LoopPre n ws₀ bs₀ s sum 0
        straight_pre =
            record {
              triangles = ts;
              labels = ls;
              lent = ws₀;
              reached = reached-0 ts ls M.ready M.drawn;
              few = omega arith;
              room = M.room;
            }

        pub straight : (ws bs : List ℤ) (r : Result ℕ Stopped) →
            ((ts ls : List ℕ) (lent : List ℤ) → Reached n ts ls lent ws₀ bs₀ s sum 0 1 → Halts n ts ls lent ws bs r) →
            (ts ls : List ℕ) → Ready n ts ls s → bs₀ ≡ forward n ts ls ws₀ → Halts n ts ls ws₀ ws bs r
        straight ws bs r H ts ls Y d = H ts ls ws₀ (reached-0 ts ls Y d)

      -- ---- it is below 1

      pub first_due : le_z (pos 1) N ≡ false → FirstPre n ws₀ bs₀ s sum N
      first_due h =
          record {
            begun = M;
            is = λ ts ls Y d. e_n ∙ total_is ts ls Y d;
            small = rw e_n (coordinate-range bs₀ within 0 v0);
            low = le_z-false (pos 1) N h;
          }

    -- ---- the third coordinates

    module _ (ws bs : List ℤ) (r : Result ℕ Stopped) (H : (ts ls : List ℕ) → Ready n ts ls s → bs₀ ≡ forward n ts ls ws₀ → Halts n ts ls ws₀ ws bs r) where
      pub thirds_pre : ThirdsPre n v0 bs
      thirds_pre =
          let h = H ts ls M.ready M.drawn in
          let o = (repair-outcome n ts ls M.ready.sphere.least M.ready.size unit_maps ws₀ M.long).loop in
          record {
            few = M.ready.most;
            first = v0_low;
            long = h.drawn.long;
            small =
                λ c i k l. coordinate-range bs (drawn_within n ts ls unit_maps M.ready.size (repair n ts ls ws₀).weights bs
                (o.length_kept ∙ M.long) (o.light (light_9 ws₀ M.light)) h.drawn) c i;
          }

      pub ends : (bs' : List ℤ) → ThirdsWritten n (coordinate bs 0 v0) bs bs' → (ts ls : List ℕ) → Ready n ts ls s →
          bs₀ ≡ forward n ts ls ws₀ → Ends n ts ls ws₀ ws bs' r
      ends bs' C ts ls Y d =
          let h = H ts ls Y d in
          let U = units ts ls Y.sphere Y.size Y.realizer in
          let o = (repair-outcome n ts ls Y.sphere.least Y.size U ws₀ M.long).loop in
          let end = (repair n ts ls ws₀).weights in
          let N = drawn_total ts ls Y end bs (o.length_kept ∙ M.long) h.drawn in
          record {
            answer = h.answer;
            weights = h.weights;
            coordinates =
                drawn_all n ts ls U Y.size end bs h.drawn bs' C.long (λ c i q k. C.same c i q)
                (λ i k. C.third i k ∙ ap (λ (z : ℤ). z -ℤ coordinate bs 0 i -ℤ coordinate bs 1 i) N);
          }

-- ---- the first raise

module _ (n : ℕ) (s ws₀ bs₀ : List ℤ) (sum : ℕ) (N : ℤ) (F : FirstPre n ws₀ bs₀ s sum N) where
  abbrev M : ReadyPre n ws₀ bs₀ s sum
  M = F.begun

  pub some : 1 < 2 * n - 4
  some = omega (arith, M.ready.sphere.least)

  pub can_search-first : SearchPre s bs₀ (2 * n - 4)
  can_search-first = search_pre n M.triangles M.labels s M.ready M.room bs₀ (long n s ws₀ bs₀ sum M) (within n s ws₀ bs₀ sum M)

  -- `handed` is N, as the call was handed it
  module _ (x handed : ℤ) (eh : handed ≡ N) (ex : x ≡ max_z (raise_at (tables_of s) bs₀ 1) (pos 1 -ℤ handed)) where
    by_total : x ≡ max_z (raise_at (tables_of s) bs₀ 1) (pos 1 -ℤ N)
    by_total = rw eh at ex

    first_small : nat_abs x ≤ 2 * limit + 1
    first_small =
        let D = drawn_lent n M.triangles M.labels ws₀ bs₀ s M.ready M.long M.light M.drawn in
        let own = raise_room n M.triangles M.labels s M.ready ws₀ bs₀ D 1 (omega arith) some M.long M.light in
        let lack : nat_abs (pos 1 -ℤ N) ≤ 2 * limit + 1 = omega (arith, abs_minus (pos 1) N, F.small) in
        rw by_total (abs_max (raise_at (tables_of s) bs₀ 1) (pos 1 -ℤ N) (2 * limit + 1) own lack)

    pub can_raise-first : RaisePre n ws₀ bs₀ s 1 sum x
    can_raise-first =
        record {
          positive = omega arith;
          inside = omega (arith, M.long, some);
          summed = M.summed;
          light = M.light;
          small = first_small;
          update_pre =
              update_pre n M.triangles M.labels s M.ready 1 (omega arith) some bs₀ x M.room (long n s ws₀ bs₀ sum M)
              (within n s ws₀ bs₀ sum M) first_small;
        }

    module _ (ws bs : List ℤ) (r : ℕ) (T : Tried n s ws₀ bs₀ ws bs 1 x r) where
      below : (ts ls : List ℕ) → Ready n ts ls s → bs₀ ≡ forward n ts ls ws₀ → total ws₀ <ℤ pos 1
      below ts ls Y d = rw (F.is ts ls Y d) at F.low

      due : (ts ls : List ℕ) → Ready n ts ls s → bs₀ ≡ forward n ts ls ws₀ → x ≡ max_z (raise_at (tables_of s) bs₀ 1) (pos 1 -ℤ total ws₀)
      due ts ls Y d = rw (F.is ts ls Y d) at by_total

      -- it is not made
      pub first_stops : limit < r → (ts ls : List ℕ) → Ready n ts ls s → bs₀ ≡ forward n ts ls ws₀ → Halts n ts ls ws₀ ws bs (Err (record { raises = 0 }))
      unfolding repair_answer
      first_stops h ts ls Y d =
          let e = stops_first n ts ls ws₀ bs₀ s Y M.long M.light d (below ts ls Y d) x (due ts ls Y d) (omega (arith, T.sum)) in
          halts_by n ts ls ws₀ ws bs (Err (record { raises = 0 })) (record { ending = stopped; weights = ws₀; raises = [] }) e refl (T.kept h).0
          (rw (T.kept h).1 (drawn_lent n ts ls ws₀ bs₀ s Y M.long M.light d))

      -- it is made
      module _ (h : r ≤ limit) where
        reached-1 : (ts ls : List ℕ) → Ready n ts ls s → bs₀ ≡ forward n ts ls ws₀ → Reached n ts ls ws₀ ws bs s r 1 2
        reached-1 ts ls Y d =
            rw (T.made h).0
            (reached-first n ts ls ws₀ bs₀ s Y M.long M.light d (below ts ls Y d) x (due ts ls Y d) (omega (arith, T.sum)) bs
            (times_moved-moved n ts ls s Y 1 (omega arith) some x bs₀ bs (T.made h).1) r T.sum)

        pub after-first_pre : LoopPre n ws bs s r 1
        after-first_pre =
            record {
              triangles = M.triangles;
              labels = M.labels;
              lent = ws₀;
              reached = reached-1 M.triangles M.labels M.ready M.drawn;
              few = omega arith;
              room = M.room;
            }

        pub after_first : (ws' bs' : List ℤ) (r' : Result ℕ Stopped) →
            ((ts ls : List ℕ) (lent : List ℤ) → Reached n ts ls lent ws bs s r 1 2 → Halts n ts ls lent ws' bs' r') →
            (ts ls : List ℕ) → Ready n ts ls s → bs₀ ≡ forward n ts ls ws₀ → Halts n ts ls ws₀ ws' bs' r'
        after_first ws' bs' r' H ts ls Y d = H ts ls ws₀ (reached-1 ts ls Y d)
