-- What rows 3 to 6 and 8 of the table of refusals say, each as a statement about darts. (`Vertices` has 7 and 25.) Assumes nothing.
use Rattle.std.specs.Prelude.{ℕ, ◌/◌, ◌≤◌, ◌<◌, ◌≡◌, ◌≢◌, ◌↔◌, Bool, false, ◌&&◌, List, leb, length, get_or}
use Rattle.std.proofs.Math.Path.{sym, ap}
use Rattle.std.proofs.Common.{◌∙◌, arith}
use Rattle.std.proofs.Math.Bool.{true, not}
use Rattle.std.proofs.Math.Decide.{dec_lt, ℕ_discrete}
use Rattle.std.proofs.Math.Dec.{eqb}
use borrow.Author.Tests.{leb-false, lt-leb, eqb-true, eqb-false, eq-eqb, ne_eqb, not-true, not-false}
use Rattle.definitions.specs.Lists.{any, elem}
use Rattle.definitions.specs.Mesh.{org, tip, darts, triangles, same, opposite, opp, outgoing, row3, row4, row5, row6, row8, component}
use Rattle.definitions.specs.Labels.{dart_to}
use Rattle.laws.specs.Lists.{◌∈◌, clash, untrue, unfalse, and_both, any-true, true-any, any_false, false-any, in_get_or, get_or_in, in_upto, upto_in}
use Rattle.laws.specs.Lists.{filter_in, in_filter, first_or_in, first_or-none, first_or_only, elem-true, true-elem}
use Rattle.laws.specs.Counting.{Distinct, distinct_upto, distinct_filter}

module _ (ts : List ℕ) where
  pub darts_in : {d : ℕ} → d ∈ darts ts → d < length ts
  unfolding darts
  darts_in m = upto_in (length ts) m

  pub in_darts : (d : ℕ) → d < length ts → d ∈ darts ts
  unfolding darts
  in_darts d h = in_upto (length ts) d h

  -- the darts that leave v are those whose origin it is, each once
  pub outgoing_in : {d : ℕ} (v : ℕ) → d ∈ outgoing ts v → (d < length ts) × (org ts d ≡ v)
  unfolding outgoing
  outgoing_in {d} v m = let r = filter_in (λ d. eqb (org ts d) v) (darts ts) m in (darts_in r.0, eqb-true (org ts d) v r.1)

  pub in_outgoing : (v d : ℕ) → d < length ts → org ts d ≡ v → d ∈ outgoing ts v
  unfolding outgoing
  in_outgoing v d h e = in_filter (λ d. eqb (org ts d) v) (in_darts d h) (eq-eqb (org ts d) v e)

  pub distinct_outgoing : (v : ℕ) → Distinct (outgoing ts v)
  unfolding outgoing darts
  distinct_outgoing v = distinct_filter (λ d. eqb (org ts d) v) (distinct_upto (length ts))

  -- the test of an opposite side
  pub opposite-true : (d e : ℕ) → opposite ts d e ≡ true → (org ts e ≡ tip ts d) × (tip ts e ≡ org ts d)
  unfolding opposite
  opposite-true d e h =
      let r = and_both (eqb (org ts e) (tip ts d)) (eqb (tip ts e) (org ts d)) h in
      (eqb-true (org ts e) (tip ts d) r.0, eqb-true (tip ts e) (org ts d) r.1)

  pub true-opposite : (d e : ℕ) → org ts e ≡ tip ts d → tip ts e ≡ org ts d → opposite ts d e ≡ true
  unfolding opposite
  true-opposite d e p q = rw (eq-eqb (org ts e) (tip ts d) p) (eq-eqb (tip ts e) (org ts d) q)

  -- where a side has an opposite, `opp` gives one; where it has none, `opp` gives no dart
  pub opp_finds : (d e : ℕ) → e < length ts → org ts e ≡ tip ts d → tip ts e ≡ org ts d
      → (opp ts d < length ts) × (org ts (opp ts d) ≡ tip ts d) × (tip ts (opp ts d) ≡ org ts d)
  unfolding opp
  opp_finds d e h p q =
      let r = first_or_in (opposite ts d) (length ts) (darts ts) (true-any (opposite ts d) (in_darts e h) (true-opposite d e p q)) in
      let o = opposite-true d (opp ts d) r.1 in
      (darts_in r.0, o.0, o.1)

  pub opp-none : (d : ℕ) → ((e : ℕ) → e < length ts → org ts e ≡ tip ts d → tip ts e ≡ org ts d → ⊥) → opp ts d ≡ length ts
  unfolding opp
  opp-none d h =
      first_or-none (opposite ts d) (length ts) (darts ts)
      (false-any (opposite ts d) (darts ts) (λ e m. untrue (opposite ts d e) (λ t.
      let r = opposite-true d e t in h e (darts_in m) r.0 r.1)))

  -- ---- the rows

  -- 3: every vertex number is below n
  pub row3_means : (n : ℕ) → (row3 ts n ≡ false) ↔ ((d : ℕ) → d < length ts → org ts d < n)
  unfolding row3 org
  row3_means n = (
    λ e d h. leb-false n (get_or ts d 0) (any_false (leb n) ts e (get_or_in ts d 0 h)),
    λ f. false-any (leb n) ts (λ v m. let r = in_get_or 0 m in lt-leb n v (rw r.2 at (f r.0 r.1))),
  )

  -- 4: no side is a loop
  pub row4_means : (row4 ts ≡ false) ↔ ((d : ℕ) → d < length ts → org ts d ≢ tip ts d)
  unfolding row4
  row4_means = (
    λ e d h. eqb-false (org ts d) (tip ts d) (any_false (λ d. eqb (org ts d) (tip ts d)) (darts ts) e (in_darts d h)),
    λ f. false-any (λ d. eqb (org ts d) (tip ts d)) (darts ts) (λ d m. ne_eqb (org ts d) (tip ts d) (f d (darts_in m))),
  )

  -- 5: two darts with one side are the same dart
  abbrev pub Once : Type 0
  Once = (d e : ℕ) → d < length ts → e < length ts → org ts d ≡ org ts e → tip ts d ≡ tip ts e → d ≡ e

  twin : ℕ → ℕ → Bool
  twin d e = not (eqb d e) && same ts d e

  twin_false : (d e : ℕ) → twin d e ≡ false → org ts d ≡ org ts e → tip ts d ≡ tip ts e → d ≡ e
  unfolding twin same
  twin_false d e t p q =
      elim (ℕ_discrete d e) [
        | yes i ↦ i
        | no n ↦
            let s : (not (eqb d e) && same ts d e) ≡ true =
            rw (ne_eqb d e n, eq-eqb (org ts d) (org ts e) p) (eq-eqb (tip ts d) (tip ts e) q) in
            clash s t
      ]

  false_twin : (d e : ℕ) → (org ts d ≡ org ts e → tip ts d ≡ tip ts e → d ≡ e) → twin d e ≡ false
  unfolding twin same
  false_twin d e f =
      untrue (not (eqb d e) && same ts d e) (λ t.
      let r = and_both (not (eqb d e)) (same ts d e) t in
      let s = and_both (eqb (org ts d) (org ts e)) (eqb (tip ts d) (tip ts e)) r.1 in
      eqb-false d e (not-true (eqb d e) r.0) (f (eqb-true (org ts d) (org ts e) s.0) (eqb-true (tip ts d) (tip ts e) s.1)))

  pub row5_means : (row5 ts ≡ false) ↔ Once
  unfolding row5 twin
  row5_means = (
    λ t d e h l. twin_false d e (any_false (twin d) (darts ts) (any_false (λ d. any (twin d) (darts ts)) (darts ts) t (in_darts d h)) (in_darts e l)),
    λ f. false-any (λ d. any (twin d) (darts ts)) (darts ts) (λ d m.
        false-any (twin d) (darts ts) (λ e k. false_twin d e (f d e (darts_in m) (darts_in k)))),
  )

  -- where no side is there twice, a dart that runs back is the one that `opp` gives
  pub opp_is : Once → (d e : ℕ) → e < length ts → org ts e ≡ tip ts d → tip ts e ≡ org ts d → opp ts d ≡ e
  unfolding opp
  opp_is once d e h p q =
      first_or_only (opposite ts d) (length ts) e (in_darts e h) (true-opposite d e p q)
      (λ f m t. let o = opposite-true d f t in once f e (darts_in m) h (o.0 ∙ sym p) (o.1 ∙ sym q))

  -- and the dart from v to u is the one that `dart_to` gives
  pub side_is : Once → (v u e : ℕ) → e < length ts → org ts e ≡ v → tip ts e ≡ u → dart_to ts v u ≡ e
  unfolding dart_to
  side_is once v u e h p q =
      first_or_only (λ d. eqb (tip ts d) u) (length ts) e (in_outgoing v e h p) (eq-eqb (tip ts e) u q)
      (λ f m t.
      let l = outgoing_in v m in
      once f e l.0 h (l.1 ∙ sym p) (eqb-true (tip ts f) u t ∙ sym q))

  -- 6: every side has an opposite
  abbrev pub Opposed : Type 0
  Opposed = (d : ℕ) → d < length ts → (e : ℕ) × (e < length ts) × (org ts e ≡ tip ts d) × (tip ts e ≡ org ts d)

  pub row6_means : (row6 ts ≡ false) ↔ Opposed
  unfolding row6
  row6_means = (
    λ t d h.
        let a = not-false (any (opposite ts d) (darts ts)) (any_false (λ d. not (any (opposite ts d) (darts ts))) (darts ts) t (in_darts d h)) in
        let r = any-true (opposite ts d) (darts ts) a in
        let o = opposite-true d r.0 r.2 in
        (r.0, darts_in r.1, o.0, o.1),
    λ f. false-any (λ d. not (any (opposite ts d) (darts ts))) (darts ts) (λ d m.
        let r = f d (darts_in m) in ap not (true-any (opposite ts d) (in_darts r.0 r.1) (true-opposite d r.0 r.2 r.3))),
  )

  -- 8: the outer triangle's piece has every triangle
  pub row8_means : (row8 ts ≡ false) ↔ ((t : ℕ) → t < length ts / 3 → t ∈ component ts)
  unfolding row8 triangles
  row8_means = (
    λ e t h. elem-true t (component ts) (not-false (elem t (component ts))
        (any_false (λ t. not (elem t (component ts))) (triangles ts) e (in_upto (length ts / 3) t h))),
    λ f. false-any (λ t. not (elem t (component ts))) (triangles ts) (λ t m. ap not (true-elem (f t (upto_in (length ts / 3) m)))),
  )

  -- ---- what makes a row find something

  pub row3_finds : (n d : ℕ) → d < length ts → n ≤ org ts d → row3 ts n ≡ true
  row3_finds n d h l = unfalse (row3 ts n) (λ e. omega (arith, (row3_means n).0 e d h))

  pub row4_finds : (d : ℕ) → d < length ts → org ts d ≡ tip ts d → row4 ts ≡ true
  row4_finds d h q = unfalse (row4 ts) (λ e. row4_means.0 e d h q)

  pub row5_finds : (d e : ℕ) → d < length ts → e < length ts → d ≢ e → org ts d ≡ org ts e → tip ts d ≡ tip ts e → row5 ts ≡ true
  row5_finds d e h l n p q = unfalse (row5 ts) (λ t. n (row5_means.0 t d e h l p q))

  pub row6_finds : (d : ℕ) → d < length ts → ((e : ℕ) → e < length ts → org ts e ≡ tip ts d → tip ts e ≡ org ts d → ⊥) →
      row6 ts ≡ true
  row6_finds d h n = unfalse (row6 ts) (λ t. let r = row6_means.0 t d h in n r.0 r.1 r.2 r.3)

  -- for row 5 it is enough to look at pairs in order
  pub once_ordered : ((d e : ℕ) → d < e → e < length ts → org ts d ≡ org ts e → tip ts d ≡ tip ts e → ⊥) → Once
  once_ordered f d e h l p q =
      elim (dec_lt d e) [
        | yes a ↦ absurd (f d e a l p q)
        | no a ↦ elim (dec_lt e d) [ yes b ↦ absurd (f e d b h (sym p) (sym q)) | no b ↦ omega arith ]
      ]

  -- where row 6 finds nothing, `opp` gives a dart that runs back
  pub row6-opp : row6 ts ≡ false → (d : ℕ) → d < length ts → (opp ts d < length ts) × (org ts (opp ts d) ≡ tip ts d)
      × (tip ts (opp ts d) ≡ org ts d)
  row6-opp t d h = let r = row6_means.0 t d h in opp_finds d r.0 r.1 r.2 r.3
