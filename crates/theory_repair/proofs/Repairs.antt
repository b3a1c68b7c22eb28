-- Repair, its loop and its first raise: what `Loop` says holds after each raise, and `Outcome` at each end. Assumes nothing.
use Rattle.std.specs.Prelude.{ℕ, zero, suc, ◌+◌, ◌*◌, ◌-◌, ◌/◌, ◌≤◌, ◌<◌, ◌≡◌, ◌≢◌, ◌⊎◌, Bool, true, false, not, ◌&&◌}
use Rattle.std.specs.Prelude.{List, [], ◌∷◌, ◌++◌, ltb, length, ℤ, pos, ◌-ℤ◌, ◌≤ℤ◌, ◌<ℤ◌}
use Rattle.std.proofs.Math.Path.{refl, ap}
use Rattle.std.proofs.Common.{sym, ◌∙◌, inl, inr, arith, length-append}
use mathlib.Core.List.Memᴰ
use Rattle.std.proofs.Math.Option.{Option, none, some}
use Rattle.std.proofs.Math.Decide.{dec_lt}
use Rattle.std.specs.Int.Signed.{le_z, ≤ℤ_refl}
use borrow.Author.Tests.{ltb-true, ltb-false}
use Rattle.definitions.specs.Lists.{range, filter, first, total, total_abs}
use Rattle.definitions.specs.Mesh.{triangles_length, weights_length, inner}
use Rattle.definitions.specs.Forward.{weight, forward}
use Rattle.definitions.specs.Repair.{limit, bad, raise, add_to, finished, stopped, RepairState, repair_loop, first_raise, repair, changed}
use Rattle.definitions.specs.Refusals.{row9}
use Rattle.laws.specs.Integers.{int, zpos, z+, z-}
use Rattle.laws.specs.Counting.{nil, cons, distinct_append}
use Rattle.laws.specs.Lists.{◌∈◌, tested, clash, First-in, first_some, first-none, filter_none, length-filter, length-range}
use Rattle.laws.specs.Ring.{le_z-true, le_z-false, le-le_z, lt-le_z}
use Rattle.laws.specs.Sums.{count_change}
use Rattle.theory_realizer.specs.Units.{Units}
use Rattle.theory_repair.specs.Coordinates.{inner-range, inner_in, in_inner}
use Rattle.theory_repair.specs.Areas.{Extended, good}
use Rattle.theory_repair.specs.Raises.{max_z-left, max_z_right, length-add_to, weight_raised, weight-other, total_raised}
use Rattle.theory_repair.specs.Raises.{raise_keeps, raise_extends, bad-raise}
use Rattle.theory_repair.specs.Repairs.{straight_on, first-refused, first_made, after_first, light_9, Loop, NextRaise, lowest_bad, first_of_all, Outcome}

-- ---- the loop, an iteration at a time

module _ (n : ℕ) (ts ls : List ℕ) (k : ℕ) (ws : List ℤ) (rs : List ℕ) where
  -- an iteration by the first bad triangle, and by whether its raise would break 9
  abbrev weighed : ℕ → Bool → RepairState
  weighed t b =
      elim b [
        | true ↦ record { ending = stopped; weights = ws; raises = rs }
        | false ↦ repair_loop n ts ls k (add_to ws t (raise ts ls (forward n ts ls ws) t)) (rs ++ (t ∷ []))
      ]

  abbrev picked : Option ℕ → RepairState
  picked o =
      elim o [
        | none ↦ record { ending = finished; weights = ws; raises = rs }
        | some t ↦ weighed t (ltb limit (total_abs (add_to ws t (raise ts ls (forward n ts ls ws) t))))
      ]

  step : repair_loop n ts ls (suc k) ws rs ≡ picked (first (bad ts ls (forward n ts ls ws)) (inner ts))
  unfolding repair_loop
  step = refl

-- one more at the end of a list
snoc_in : {y : ℕ} (xs : List ℕ) (x : ℕ) → y ∈ xs ++ (x ∷ []) → (y ∈ xs) ⊎ (y ≡ x)
snoc_in xs x m = elim (Memᴰ.append_cases xs m) [ inl h ↦ inl h | inr h ↦ inr (Memᴰ.eq_of_singleton h) ]

length_snoc : (xs : List ℕ) (x : ℕ) → length (xs ++ (x ∷ [])) ≡ suc (length xs)
length_snoc xs x = omega (arith, length-append xs (x ∷ []))

-- ---- the count of changed weights

-- the test that `changed` makes
abbrev differs : List ℤ → List ℤ → ℕ → Bool
differs ws ws' t = not (le_z (weight ws t) (weight ws' t) && le_z (weight ws' t) (weight ws t))

-- it fails for equal weights and passes for a greater one
same-weight : (x y : ℤ) → x ≡ y → not (le_z x y && le_z y x) ≡ false
same-weight x y e = rw e (rw (le-le_z y y (≤ℤ_refl y)))

more-weight : (x y : ℤ) → x <ℤ y → not (le_z x y && le_z y x) ≡ true
more-weight x y h = rw (le-le_z x y (omega int), lt-le_z y x h)

module _ (n : ℕ) (ts : List ℕ) (size : length ts ≡ triangles_length n) where
  -- `changed` over the inner triangles by number
  changed-range : (ws ws' : List ℤ) → changed ts ws ws' ≡ filter (differs ws ws') (range 1 (weights_length n))
  unfolding changed
  changed-range ws ws' = ap (filter (differs ws ws')) (inner-range n ts size)

  -- nothing is changed at the start, and at most all weights
  changed-none : (ws : List ℤ) → length (changed ts ws ws) ≡ 0
  changed-none ws =
      ap length (changed-range ws ws)
      ∙ ap length (filter_none (differs ws ws) (range 1 (weights_length n)) (λ t m. same-weight (weight ws t) (weight ws t) refl))

  changed_most : (ws ws' : List ℤ) → length (changed ts ws ws') ≤ weights_length n
  changed_most ws ws' =
      omega (arith, ap length (changed-range ws ws'), length-filter (differs ws ws') (range 1 (weights_length n)), length-range 1 (weights_length n))

  -- a raise of a weight that was not changed before changes one more
  changed-more : (ws₀ ws : List ℤ) (t : ℕ) (x : ℤ) → length ws ≡ weights_length n → 0 < t → t < length ts / 3 →
      weight ws t ≡ weight ws₀ t → pos 1 ≤ℤ x →
      length (changed ts ws₀ (add_to ws t x)) ≡ suc (length (changed ts ws₀ ws))
  changed-more ws₀ ws t x len h k e l =
      let w = weight_raised ws t x h (omega arith) in
      ap length (changed-range ws₀ (add_to ws t x))
      ∙ count_change (differs ws₀ ws) (differs ws₀ (add_to ws t x)) t 1 (weights_length n)
      (λ u d. ap (λ (y : ℤ). not (le_z (weight ws₀ u) y && le_z y (weight ws₀ u))) (weight-other ws t x u d h))
      (same-weight (weight ws₀ t) (weight ws t) (sym e))
      (more-weight (weight ws₀ t) (weight (add_to ws t x) t) (omega (int, zpos 1, z+ (weight ws t) x)))
      h (omega arith)
      ∙ ap (λ (us : List ℕ). suc (length us)) (sym (changed-range ws₀ ws))

-- ---- from raise to raise

module _ (n : ℕ) (ts ls : List ℕ) (least : 3 ≤ n) (size : length ts ≡ triangles_length n) (U : Units n ts ls) (ws₀ : List ℤ)
    (len : length ws₀ ≡ weights_length n) where
  -- before any raise
  begin : Loop n ts ls ws₀ ws₀ []
  begin =
      record {
        length_kept = refl;
        ours = λ t m. absurd (Memᴰ.not-nil m);
        once = nil;
        extended = λ t m. absurd (Memᴰ.not-nil m);
        grown = λ t m. absurd (Memᴰ.not-nil m);
        others = λ t m. refl;
        count = changed-none n ts size ws₀;
        light = λ h. h;
      }

  -- at most as many raises as there are inner triangles
  pub few : (ws : List ℤ) (rs : List ℕ) → Loop n ts ls ws₀ ws rs → length rs ≤ 2 * n - 5
  few ws rs L = omega (arith, L.count, changed_most n ts size ws₀ ws)

  -- after the raise of a triangle t that has not been raised before, by x, which is at least its own raise and at least 1
  module _ (ws : List ℤ) (rs : List ℕ) (L : Loop n ts ls ws₀ ws rs) (t : ℕ) (ht : 0 < t) (kt : t < length ts / 3) (new : t ∈ rs → ⊥)
      (x : ℤ) (enough : raise ts ls (forward n ts ls ws) t ≤ℤ x) (positive : pos 1 ≤ℤ x) (fits : row9 (add_to ws t x) ≡ false) where
    kept : length ws ≡ weights_length n
    kept = L.length_kept ∙ len

    -- afterwards it is extended, and its weight greater than at the start
    fully : Extended ts ls (forward n ts ls (add_to ws t x)) t
    fully = raise_extends n ts ls size U ws kept t ht kt x enough

    own : weight ws₀ t <ℤ weight (add_to ws t x) t
    own =
        let e = weight_raised ws t x ht (omega (arith, kept)) in
        let f = L.others t new in
        omega (int, positive, zpos 1, z+ (weight ws t) x)

    other : (s : ℕ) → s ∈ rs → s ≢ t
    other s m e = new (Memᴰ.cast (sym e) m)

    raised : Loop n ts ls ws₀ (add_to ws t x) (rs ++ (t ∷ []))
    raised =
        record {
          length_kept = length-add_to ws t x ∙ L.length_kept;
          ours = λ s m. elim (snoc_in rs t m) [ inl h ↦ L.ours s h | inr e ↦ rw e (ht, kt) ];
          once = distinct_append L.once (cons Memᴰ.not-nil nil) (λ s h m. new (Memᴰ.cast (sym (Memᴰ.eq_of_singleton m)) h));
          extended = λ s m.
              elim (snoc_in rs t m) [
                | inl h ↦ raise_keeps n ts ls size U ws kept t ht kt x (omega (int, positive, zpos 0, zpos 1)) s (L.ours s h).0 (L.ours s h).1
                    (L.extended s h)
                | inr e ↦ rw e fully
              ];
          grown = λ s m.
              elim (snoc_in rs t m) [
                | inl h ↦ rw (weight-other ws t x s (other s h) ht) (L.grown s h)
                | inr e ↦ rw e own
              ];
          others = λ s m.
              weight-other ws t x s (λ e. m (Memᴰ.append_right rs (Memᴰ.head e))) ht
              ∙ L.others s (λ h. m (Memᴰ.append_left (t ∷ []) h));
          count = changed-more n ts size ws₀ ws t x kept ht kt (L.others t new) positive ∙ ap suc L.count ∙ sym (length_snoc rs t);
          light = λ h. fits;
        }

  -- ---- the whole loop: its fuel and the raises made come to 2n - 4, more than there can be raises

  -- its two ends
  at-finished : (ws : List ℤ) (rs : List ℕ) → Loop n ts ls ws₀ ws rs → pos 1 ≤ℤ total ws →
      first (bad ts ls (forward n ts ls ws)) (inner ts) ≡ none → Outcome n ts ls ws₀ (record { ending = finished; weights = ws; raises = rs })
  at-finished ws rs L N e =
      record {
        loop = L;
        ends = λ q. let z : ◌≡◌ {A = ℕ} 0 1 = cc in omega arith;
        mends = λ q t h k. first-none (bad ts ls (forward n ts ls ws)) (inner ts) e (in_inner n ts least size t h k);
        totals = λ q. N;
        stops = λ q. let z : ◌≡◌ {A = ℕ} 0 1 = cc in absurd (omega arith);
      }

  at_stopped : (ws : List ℤ) (rs : List ℕ) → Loop n ts ls ws₀ ws rs → (t : ℕ) (x : ℤ) → NextRaise n ts ls ws (length rs) t x →
      limit < total_abs (add_to ws t x) → Outcome n ts ls ws₀ (record { ending = stopped; weights = ws; raises = rs })
  at_stopped ws rs L t x next h =
      record {
        loop = L;
        ends = λ q. let z : ◌≡◌ {A = ℕ} 0 1 = cc in omega arith;
        mends = λ q. let z : ◌≡◌ {A = ℕ} 0 1 = cc in absurd (omega arith);
        totals = λ q. let z : ◌≡◌ {A = ℕ} 0 1 = cc in absurd (omega arith);
        stops = λ q. (t, x, next, h);
      }

  -- the total stays 1 or more with a raise of 1 or more
  total_stays : (ws : List ℤ) (t : ℕ) (x : ℤ) → length ws ≡ weights_length n → 0 < t → t < length ts / 3 → pos 1 ≤ℤ total ws → pos 1 ≤ℤ x →
      pos 1 ≤ℤ total (add_to ws t x)
  total_stays ws t x e h k N l =
      let q = total_raised ws t x h (omega arith) in
      omega (int, zpos 1, z+ (total ws) x)

  -- from any iteration on
  pub finish : (k : ℕ) (ws : List ℤ) (rs : List ℕ) → Loop n ts ls ws₀ ws rs → pos 1 ≤ℤ total ws → k + length rs ≡ 2 * n - 4 →
      Outcome n ts ls ws₀ (repair_loop n ts ls k ws rs)
  finish zero ws rs L N f = absurd (omega (arith, few ws rs L))
  finish (suc k) ws rs L N f = rw (step n ts ls k ws rs) (go (finish k) (first (bad ts ls (forward n ts ls ws)) (inner ts)) refl)
    where
      p : ℕ → Bool
      p = bad ts ls (forward n ts ls ws)

      x : ℕ → ℤ
      x t = raise ts ls (forward n ts ls ws) t

      Next : Type 0
      Next = (ws : List ℤ) (rs : List ℕ) → Loop n ts ls ws₀ ws rs → pos 1 ≤ℤ total ws → k + length rs ≡ 2 * n - 4 →
          Outcome n ts ls ws₀ (repair_loop n ts ls k ws rs)

      on : Next → (t : ℕ) → first p (inner ts) ≡ some t → (b : Bool) → ltb limit (total_abs (add_to ws t (x t))) ≡ b →
          Outcome n ts ls ws₀ (weighed n ts ls k ws rs t b)
      on next t e true h = at_stopped ws rs L t (x t) (lowest_bad t N e) (ltb-true limit (total_abs (add_to ws t (x t))) h)
      on next t e false h =
          let F = first_some p (inner ts) t e in
          let m = inner_in n ts least size (First-in p F) in
          let long = L.length_kept ∙ len in
          -- a bad triangle has not been raised before, and its raise is at least 1
          let new : t ∈ rs → ⊥ = λ r. clash F.passes (good n ts ls size U ws t m.0 m.1 (L.extended t r)) in
          let one = bad-raise n ts ls size U ws long t m.0 m.1 F.passes in
          let fits = light_9 (add_to ws t (x t)) (ltb-false limit (total_abs (add_to ws t (x t))) h) in
          next (add_to ws t (x t)) (rs ++ (t ∷ [])) (raised ws rs L t m.0 m.1 new (x t) (≤ℤ_refl (x t)) one fits)
          (total_stays ws t (x t) long m.0 m.1 N one) (omega (arith, length_snoc rs t))

      go : Next → (o : Option ℕ) → first p (inner ts) ≡ o → Outcome n ts ls ws₀ (picked n ts ls k ws rs o)
      go next none e = at-finished ws rs L N e
      go next (some t) e = on next t e (ltb limit (total_abs (add_to ws t (x t)))) refl

  -- ---- from the start, where the total is 1 or more, or with the first raise

  module _ (low : total ws₀ <ℤ pos 1) where
    abbrev y : ℤ
    y = first_raise n ts ls ws₀

    -- the first raise is at least the triangle's own, and brings the total to 1 or more; and so it is at least 1
    first_enough : raise ts ls (forward n ts ls ws₀) 1 ≤ℤ y
    unfolding first_raise
    first_enough = max_z-left (raise ts ls (forward n ts ls ws₀) 1) (pos 1 -ℤ total ws₀)

    first_lifts : (pos 1 -ℤ total ws₀) ≤ℤ y
    unfolding first_raise
    first_lifts = max_z_right (raise ts ls (forward n ts ls ws₀) 1) (pos 1 -ℤ total ws₀)

    first-positive : pos 1 ≤ℤ y
    first-positive = omega (int, first_lifts, zpos 1, z- (pos 1) (total ws₀))

    first-total : pos 1 ≤ℤ total (add_to ws₀ 1 y)
    first-total =
        let q = total_raised ws₀ 1 y (omega arith) (omega arith) in
        omega (int, first_lifts, zpos 1, z- (pos 1) (total ws₀), z+ (total ws₀) y)

    first_raised : row9 (add_to ws₀ 1 y) ≡ false → Loop n ts ls ws₀ (add_to ws₀ 1 y) (1 ∷ [])
    first_raised fits = raised ws₀ [] begin 1 (omega arith) (omega arith) Memᴰ.not-nil y first_enough first-positive fits

  pub repair-outcome : Outcome n ts ls ws₀ (repair n ts ls ws₀)
  repair-outcome =
      elim (tested (le_z (pos 1) (total ws₀))) [
        | inl e ↦
            let N = le_z-true (pos 1) (total ws₀) e in
            rw (straight_on n ts ls ws₀ N) (finish (2 * n - 4) ws₀ [] begin N (omega arith))
        | inr e ↦
            let low = le_z-false (pos 1) (total ws₀) e in
            let after = after_first n ts ls ws₀ in
            elim (dec_lt limit (total_abs after)) [
              | yes h ↦ rw (first-refused n ts ls ws₀ low h) (at_stopped ws₀ [] begin 1 (first_raise n ts ls ws₀) (first_of_all refl low) h)
              | no h ↦
                  let fits : total_abs after ≤ limit = omega (arith, h) in
                  rw (first_made n ts ls ws₀ low fits)
                  (finish (2 * n - 5) after (1 ∷ []) (first_raised low (light_9 after fits)) (first-total low) (omega arith))
            ]
      ]
