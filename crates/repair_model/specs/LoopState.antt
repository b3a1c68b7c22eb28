-- The loop of repair as the code runs it: what holds each time it looks for the next bad triangle, on a mesh whose trace is stored, and that a raise brings
-- it there again. Assumes nothing.
use Rattle.std.specs.Prelude.{ℕ, zero, suc, ◌+◌, ◌-◌, ◌*◌, ◌/◌, ◌≤◌, ◌<◌, ◌≡◌, refl, ◌⊎◌, Bool, true, false, List, [], ◌∷◌, ◌++◌, eqb, ltb, length, ℤ, pos, ◌≤ℤ◌}
use Rattle.std.proofs.Common.{sym, ap, ◌∙◌, subst, inl, inr, arith, length-append, lt-ltb, le-ltb, eq-eqb, eqb-true}
use Rattle.std.proofs.Math.Option.{none, some}
use Rattle.std.proofs.Math.Decide.{dec_lt}
use Rattle.std.specs.Int.Signed.{≤ℤ_refl}
use Rattle.definitions.specs.Lists.{first, any, total_abs}
use Rattle.definitions.specs.Mesh.{weights_length, org, inner, opp}
use Rattle.definitions.specs.Forward.{forward}
use Rattle.definitions.specs.Repair.{limit, bad, raise, add_to, Ending, finished, stopped, out_of_fuel, RepairState, repair_loop, repair}
use Rattle.definitions.specs.Refusals.{row10}
use Rattle.laws.specs.Integers.{int, zpos}
use Rattle.laws.specs.Lists.{◌∈◌, tested, clash, any-true, any_false, first-at, first-not}
use Rattle.theory_sphere.specs.Sphere.{Sphere}
use Rattle.theory_realizer.specs.Units.{Units, unit0, unit1}
use Rattle.theory_crossings.specs.UnitMaps.{units}
use Rattle.theory_repair.specs.Coordinates.{inner-range}
use Rattle.theory_repair.specs.Areas.{Extended, good}
use Rattle.theory_repair.specs.Raises.{length-add_to, raise_keeps, raise_extends, bad-raise}
use Rattle.theory_repair.specs.Repairs.{light_9}
use Rattle.theory_repair.proofs.Repairs.{repair-outcome}
use Rattle.theory_repair.specs.AllWalks.{walk_triangles}
use Rattle.theory_repair.specs.RegionBorders.{off_walks}
use Rattle.scratch_tables.specs.Tables.{tables_of}
use Rattle.repair_model.specs.Raise.{Drawn, Moved, drawn_within, moved_drawn, bad-kept}
use Rattle.repair_model.specs.Search.{bad_at, raise_at, Next}
use Rattle.repair_model.specs.Ready.{Ready, walk_on_is, tells_bad, tells_raise}

-- ---- one iteration of the definition's loop

module _ (n : ℕ) (ts ls : List ℕ) (k : ℕ) (ws : List ℤ) (rs : List ℕ) where
  abbrev bad_now : ℕ → Bool
  bad_now = bad ts ls (forward n ts ls ws)

  abbrev next_weights : ℕ → List ℤ
  next_weights t = add_to ws t (raise ts ls (forward n ts ls ws) t)

  turn-finished : first bad_now (inner ts) ≡ none → repair_loop n ts ls (suc k) ws rs ≡ record { ending = finished; weights = ws; raises = rs }
  unfolding repair_loop
  turn-finished e = rw (e, repair_loop)

  turn_stopped : (t : ℕ) → first bad_now (inner ts) ≡ some t → ltb limit (total_abs (next_weights t)) ≡ true →
      repair_loop n ts ls (suc k) ws rs ≡ record { ending = stopped; weights = ws; raises = rs }
  unfolding repair_loop
  turn_stopped t e f = rw (e, f, repair_loop)

  turn_raised : (t : ℕ) → first bad_now (inner ts) ≡ some t → ltb limit (total_abs (next_weights t)) ≡ false →
      repair_loop n ts ls (suc k) ws rs ≡ repair_loop n ts ls k (next_weights t) (rs ++ (t ∷ []))
  unfolding repair_loop
  turn_raised t e f = rw (e, f, repair_loop)

-- ---- what holds each time the code looks for the next bad triangle

-- ws₀ are the weights that were lent, ws those of now, bs what is drawn of them, and `sum` their absolute values together. Triangles below `full` are fully
-- extended, and stay so.
pub record Reached (n : ℕ) (ts ls : List ℕ) (ws₀ ws bs s : List ℤ) (sum count full : ℕ) : Type 0 where
  pub ready : Ready n ts ls s
  pub lent : length ws₀ ≡ weights_length n
  pub long : length ws ≡ weights_length n
  pub light : total_abs ws ≤ limit
  pub summed : sum ≡ total_abs ws
  pub drawn : Drawn n ts ls ws bs
  -- the definition's loop goes on from here
  pub raises : List ℕ
  pub counted : length raises ≡ count
  pub rest : repair_loop n ts ls (2 * n - 4 - count) ws raises ≡ repair n ts ls ws₀
  pub positive : 0 < full
  pub extended : (i : ℕ) → 0 < i → i < full → Extended ts ls (forward n ts ls ws) i

-- once it has found t, the lowest-numbered bad one (2n - 4, if there is none)
pub record State (n : ℕ) (ts ls : List ℕ) (ws₀ ws bs s : List ℤ) (sum count full t : ℕ) : Type 0 where
  pub reached : Reached n ts ls ws₀ ws bs s sum count full
  pub lower : full ≤ t
  pub most : t ≤ 2 * n - 4
  pub before : (i : ℕ) → 0 < i → i < t → bad ts ls (forward n ts ls ws) i ≡ false
  pub here : t < 2 * n - 4 → bad ts ls (forward n ts ls ws) t ≡ true

-- t has been raised: r is `full`, or one past t if t was the first that was not extended
pub record Passed (full t r : ℕ) : Type 0 where
  pub least : full ≤ r
  pub most : r ≤ t + 1
  pub each : (i : ℕ) → i < r → (i < full) ⊎ (i ≡ t)

-- a member of none of three lists, or of one of them
sorted : (L : ℕ → List ℕ) (i : ℕ) → ((c : ℕ) × (c < 3) × (i ∈ L c)) ⊎ ((c : ℕ) → c < 3 → i ∈ L c → ⊥)
sorted L i =
    elim (tested (any (eqb i) (L 0))) [
      | inl a ↦ inl (0, omega arith, held 0 a)
      | inr a ↦
          elim (tested (any (eqb i) (L 1))) [
            | inl b ↦ inl (1, omega arith, held 1 b)
            | inr b ↦ elim (tested (any (eqb i) (L 2))) [ inl d ↦ inl (2, omega arith, held 2 d) | inr d ↦ inr (none_of a b d) ]
          ]
    ]
  where
    held : (c : ℕ) → any (eqb i) (L c) ≡ true → i ∈ L c
    held c e = let a = any-true (eqb i) (L c) e in subst (λ (j : ℕ). j ∈ L c) (sym (eqb-true i a.0 a.2)) a.1

    not_in : (c : ℕ) → any (eqb i) (L c) ≡ false → i ∈ L c → ⊥
    not_in c e m = clash (eq-eqb i i refl) (any_false (eqb i) (L c) e m)

    none_of : any (eqb i) (L 0) ≡ false → any (eqb i) (L 1) ≡ false → any (eqb i) (L 2) ≡ false → (c : ℕ) → c < 3 → i ∈ L c → ⊥
    none_of a b d zero h m = not_in 0 a m
    none_of a b d (suc zero) h m = not_in 1 b m
    none_of a b d (suc (suc zero)) h m = not_in 2 d m
    none_of a b d (suc (suc (suc c))) h m = absurd (omega arith)

module _ (n : ℕ) (ts ls : List ℕ) (ws₀ ws bs s : List ℤ) (sum count full t : ℕ) (S : State n ts ls ws₀ ws bs s sum count full t) where
  abbrev R : Reached n ts ls ws₀ ws bs s sum count full
  R = S.reached

  above : 0 < t
  above = omega (arith, R.positive, S.lower)

  size : length ts ≡ 3 * (2 * n - 4)
  size = R.ready.size

  sphere : Sphere n (length ts / 3) (org ts) (opp ts)
  sphere = R.ready.sphere

  unit_maps : Units n ts ls
  unit_maps = units ts ls sphere size R.ready.realizer

  -- no fuel is wanting
  pub more-fuel : count < 2 * n - 4
  unfolding repair_loop
  more-fuel =
      elim (dec_lt count (2 * n - 4)) [
        | yes h ↦ h
        | no h ↦
            let e : 2 * n - 4 - count ≡ 0 = omega (arith, h) in
            absurd ((repair-outcome n ts ls sphere.least size unit_maps ws₀ R.lent).ends (ap ending (sym (rw e at R.rest)) ∙ spent))
      ]
    where
      ending : RepairState → Ending
      ending m = m.ending

      spent : (repair_loop n ts ls 0 ws R.raises).ending ≡ out_of_fuel
      spent = refl

  fuel : 2 * n - 4 - count ≡ suc (2 * n - 4 - (count + 1))
  fuel = omega (arith, more-fuel)

  -- what is drawn is within the limit
  pub within : row10 bs ≡ false
  within = drawn_within n ts ls unit_maps size ws bs R.long (light_9 ws R.light) R.drawn

  -- ---- the two ends

  pub at-finished : 2 * n - 4 ≤ t → repair n ts ls ws₀ ≡ record { ending = finished; weights = ws; raises = R.raises }
  at-finished h =
      let none-bad : first (bad ts ls (forward n ts ls ws)) (inner ts) ≡ none =
      rw (inner-range n ts size) (first-not (bad ts ls (forward n ts ls ws)) 1 (weights_length n)
      (λ i a b. S.before i (omega arith) (omega (arith, sphere.least)))) in
      sym (rw fuel at R.rest) ∙ turn-finished n ts ls (2 * n - 4 - (count + 1)) ws R.raises none-bad

  module _ (k : t < 2 * n - 4) (x : ℤ) (ex : x ≡ raise_at (tables_of s) bs t) where
    inside : t < length ts / 3
    inside = omega (arith, size)

    is_raise : x ≡ raise ts ls (forward n ts ls ws) t
    is_raise = ex ∙ tells_raise n ts ls s R.ready ws bs R.drawn t above k

    is_first : first (bad ts ls (forward n ts ls ws)) (inner ts) ≡ some t
    is_first =
        rw (inner-range n ts size)
        (first-at (bad ts ls (forward n ts ls ws)) 1 (weights_length n) t above (omega (arith, k)) (λ i a b. S.before i (omega arith) b) (S.here k))

    pub at_stopped : limit < total_abs (add_to ws t x) → repair n ts ls ws₀ ≡ record { ending = stopped; weights = ws; raises = R.raises }
    at_stopped h =
        sym (rw fuel at R.rest)
        ∙ turn_stopped n ts ls (2 * n - 4 - (count + 1)) ws R.raises t is_first
        (rw is_raise at (lt-ltb limit (total_abs (add_to ws t x)) h))

    -- ---- a raise

    module _ (h : total_abs (add_to ws t x) ≤ limit) (bs' : List ℤ) (M : Moved n (unit0 n ts ls t) (unit1 n ts ls t) x bs bs') where
      abbrev after : List ℤ
      after = add_to ws t x

      long_after : length after ≡ weights_length n
      long_after = length-add_to ws t x ∙ R.long

      drawn_after : Drawn n ts ls after bs'
      drawn_after = moved_drawn n ts ls unit_maps size ws R.long t above inside x bs bs' R.drawn M

      pub within_after : row10 bs' ≡ false
      within_after = drawn_within n ts ls unit_maps size after bs' long_after (light_9 after h) drawn_after

      -- what was extended, and the raised triangle, are extended afterwards, and so not bad
      extended_after : (full' : ℕ) → Passed full t full' → (i : ℕ) → 0 < i → i < full' → Extended ts ls (forward n ts ls after) i
      extended_after full' Q i p q =
          let one = bad-raise n ts ls size unit_maps ws R.long t above inside (S.here k) in
          let up : pos 0 ≤ℤ x = rw is_raise (omega (int, zpos 0, zpos 1)) in
          elim (Q.each i q) [
            | inl l ↦ raise_keeps n ts ls size unit_maps ws R.long t above inside x up i p (omega (arith, size, S.lower)) (R.extended i p l)
            | inr e ↦ rw e (raise_extends n ts ls size unit_maps ws R.long t above inside x (rw is_raise (≤ℤ_refl (raise ts ls (forward n ts ls ws) t))))
          ]

      fine_after : (full' : ℕ) → Passed full t full' → (i : ℕ) → 0 < i → i < full' → bad ts ls (forward n ts ls after) i ≡ false
      fine_after full' Q i p q = good n ts ls size unit_maps after i p (omega (arith, size, Q.most)) (extended_after full' Q i p q)

      module _ (full' t' : ℕ) (N : Next (tables_of s) bs' full t (2 * n - 4) t') (Q : Passed full t full') where
        bad-after : (i : ℕ) → 0 < i → i < 2 * n - 4 → bad_at (tables_of s) bs' i ≡ bad ts ls (forward n ts ls after) i
        bad-after i p q = tells_bad n ts ls s R.ready after bs' drawn_after i p q

        -- Below `low` no triangle is bad: those below `full` are extended, those on a walk have been looked at, and the others keep their areas.
        good_below : (i : ℕ) → 0 < i → full ≤ i → i < N.low → bad ts ls (forward n ts ls after) i ≡ false
        good_below i p l m =
            let q : i < 2 * n - 4 = omega (arith, N.low_most) in
            elim (sorted (λ c. walk_triangles ts ls c (length ts / 3) t) i) [
              | inl o ↦ sym (bad-after i p q) ∙ N.clear o.0 o.1 i (rw (walk_on_is n ts ls s R.ready o.0 o.1 t k) o.2) l m
              | inr o ↦
                  bad-kept n ts ls unit_maps size ws R.long t above inside x i p (omega (arith, size))
                  (off_walks ts ls sphere size R.ready.realizer t i above inside p (omega (arith, size)) o)
                  ∙ S.before i p (omega (arith, N.low_most))
            ]

        good_after : (i : ℕ) → 0 < i → i < t' → bad ts ls (forward n ts ls after) i ≡ false
        good_after i p q =
            elim (dec_lt i N.low) [
              | no l ↦ sym (bad-after i p (omega (arith, N.found.most))) ∙ N.found.before i (omega (arith, l)) q
              | yes l ↦
                  elim (dec_lt i full) [
                    | yes m ↦ fine_after full' Q i p (omega (arith, Q.least))
                    | no m ↦ good_below i p (omega (arith, m)) l
                  ]
            ]

        -- the next bad triangle is none of those that are extended
        full_lower : full' ≤ t'
        full_lower =
            elim (dec_lt t' full') [
              | no l ↦ omega (arith, l)
              | yes l ↦
                  let p : 0 < t' = omega (arith, R.positive, N.low_least, N.found.least) in
                  let m : t' < 2 * n - 4 = omega (arith, Q.most) in
                  clash (sym (bad-after t' p m) ∙ N.found.hit m) (fine_after full' Q t' p l)
            ]

        pub at_raised : (sum' : ℕ) → sum' ≡ total_abs after → State n ts ls ws₀ after bs' s sum' (count + 1) full' t'
        at_raised sum' e =
            record {
              reached =
                  record {
                    ready = R.ready;
                    lent = R.lent;
                    long = long_after;
                    light = h;
                    summed = e;
                    drawn = drawn_after;
                    raises = R.raises ++ (t ∷ []);
                    counted = omega (arith, length-append R.raises (t ∷ []), R.counted);
                    rest =
                        ap (λ (y : ℤ). repair_loop n ts ls (2 * n - 4 - (count + 1)) (add_to ws t y) (R.raises ++ (t ∷ []))) is_raise
                        ∙ sym (turn_raised n ts ls (2 * n - 4 - (count + 1)) ws R.raises t is_first (rw is_raise at (le-ltb limit (total_abs after) h)))
                        ∙ rw fuel at R.rest;
                    positive = omega (arith, R.positive, Q.least);
                    extended = extended_after full' Q;
                  };
              lower = full_lower;
              most = N.found.most;
              before = good_after;
              here = λ q. sym (bad-after t' (omega (arith, R.positive, N.low_least, N.found.least)) q) ∙ N.found.hit q;
            }
