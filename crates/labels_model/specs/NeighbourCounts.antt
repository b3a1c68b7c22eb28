-- Darts that lead from a vertex to vertices of a set: how many there are, and how their number changes with the set. Assumes nothing.
use Prim.Native.Nat.{ℕ, ◌+◌, ◌*◌, ◌/◌, ◌≤◌, ◌<◌}
use Rattle.std.specs.Prelude.{◌≡◌, ◌≢◌, Bool, true, false, ◌||◌}
use Rattle.std.proofs.Math.Path.{refl, sym, ap}
use Rattle.std.proofs.Common.{◌∙◌, inl, inr}
use mathlib.Core.List.Memᴰ
use mathlib.Core.List.{List, [], ◌∷◌, map}
use native.Mathlib.Omega.{arith}
use Rattle.std.proofs.Math.Dec.{eqb}
use Rattle.std.proofs.Math.ListN.{length, length-map}
use borrow.Author.Tests.{eqb-true, eq-eqb, ne_eqb}
use Rattle.definitions.specs.Lists.{filter}
use Rattle.definitions.specs.Mesh.{next, org, tip, darts, opp, outgoing}
use Rattle.laws.specs.Lists.{◌∈◌, tested, clash, filter_in, in_filter, filter_same, filter_none, length-filter, length-upto}
use Rattle.laws.specs.Counting.{Distinct, nil, cons, distinct_within, distinct_filter, distinct_map}
use Rattle.theory_sphere.specs.Sphere.{Sphere}
use Rattle.theory_sphere.specs.Rows.{outgoing_in, in_outgoing, distinct_outgoing}
use Rattle.theory_sphere.specs.Rotations.{tip-opp}

-- two tests that never pass together
pub keep_either : (p q : ℕ → Bool) (xs : List ℕ) → ((x : ℕ) → x ∈ xs → p x ≡ true → q x ≡ true → ⊥) →
    length (filter (λ x. p x || q x) xs) ≡ length (filter p xs) + length (filter q xs)
unfolding filter
keep_either p q [] h = refl
keep_either p q (x ∷ xs) h =
    let ih = keep_either p q xs (λ y m. h y (Memᴰ.tail m)) in
    elim (tested (p x)) [
      | inl a ↦ elim (tested (q x)) [
        | inl b ↦ absurd (h x (Memᴰ.head refl) a b)
        | inr b ↦ rw (a, b) (omega (arith, ih))
      ]
      | inr a ↦ elim (tested (q x)) [
        | inl b ↦ rw (a, b) (omega (arith, ih))
        | inr b ↦ rw (a, b) ih
      ]
    ]

module _ (ts : List ℕ) where
  -- the tip of a dart is the origin of the next
  pub tip_is : (d : ℕ) → tip ts d ≡ org ts (next d)
  unfolding tip
  tip_is d = refl

  -- the number of darts that lead from w to vertices of F, and to x
  unfoldable pub met : (ℕ → Bool) → ℕ → ℕ
  met F w = length (filter (λ d. F (tip ts d)) (outgoing ts w))

  unfoldable pub joins : ℕ → ℕ → ℕ
  joins w x = met (λ u. eqb u x) w

  pub met-same : (F G : ℕ → Bool) (w : ℕ) → ((d : ℕ) → d ∈ outgoing ts w → F (tip ts d) ≡ G (tip ts d)) → met F w ≡ met G w
  unfolding met
  met-same F G w h = ap length (filter_same (λ d. F (tip ts d)) (λ d. G (tip ts d)) (outgoing ts w) h)

  -- with one vertex more in the set
  pub met-add : (F : ℕ → Bool) (x w : ℕ) → F x ≡ false → met (λ u. eqb u x || F u) w ≡ joins w x + met F w
  unfolding met joins
  met-add F x w h =
      keep_either (λ d. eqb (tip ts d) x) (λ d. F (tip ts d)) (outgoing ts w) (λ d m a b. clash b (ap F (eqb-true (tip ts d) x a) ∙ h))

  pub met_most : (F : ℕ → Bool) (w : ℕ) → met F w ≤ length ts
  unfolding met outgoing darts
  met_most F w =
      omega (arith, length-filter (λ d. F (tip ts d)) (outgoing ts w), length-filter (λ d. eqb (org ts d) w) (darts ts), length-upto (length ts))

  -- no dart leads from w to x
  pub joins-none : (w x : ℕ) → ((d : ℕ) → d < length ts → org ts d ≡ w → tip ts d ≢ x) → joins w x ≡ 0
  unfolding joins met
  joins-none w x h =
      ap length (filter_none (λ d. eqb (tip ts d) x) (outgoing ts w) (λ d m. let l = outgoing_in ts w m in ne_eqb (tip ts d) x (h d l.0 l.1)))

module _ (n : ℕ) (ts : List ℕ) (s : Sphere n (length ts / 3) (org ts) (opp ts)) (len : 3 * (length ts / 3) ≡ length ts) where
  abbrev T : ℕ
  T = length ts / 3

  long : (d : ℕ) → d < length ts → d < 3 * T
  long d h = omega arith

  short : (d : ℕ) → d < 3 * T → d < length ts
  short d h = omega arith

  -- as many darts lead from w to x as from x to w
  joins-less : (w x : ℕ) → joins ts w x ≤ joins ts x w
  unfolding joins met
  joins-less w x =
      omega (
        arith,
        distinct_within (distinct_map (opp ts) apart (distinct_filter (λ d. eqb (tip ts d) x) (distinct_outgoing ts w))) back there,
        length-map K (opp ts),
      )
    where
      K : List ℕ
      K = filter (λ d. eqb (tip ts d) x) (outgoing ts w)

      back : List ℕ
      back = filter (λ d. eqb (tip ts d) w) (outgoing ts x)

      from : (d : ℕ) → d ∈ K → (d < 3 * T) × (org ts d ≡ w) × (tip ts d ≡ x)
      from d m =
          let r = filter_in (λ d. eqb (tip ts d) x) (outgoing ts w) m in
          let l = outgoing_in ts w r.0 in
          (long d l.0, l.1, eqb-true (tip ts d) x r.1)

      apart : (a b : ℕ) → a ∈ K → b ∈ K → opp ts a ≡ opp ts b → a ≡ b
      apart a b m k e = sym (s.twice a (from a m).0) ∙ ap (opp ts) e ∙ s.twice b (from b k).0

      there : (y : ℕ) → y ∈ map (opp ts) K → y ∈ back
      there y m =
          let r = Memᴰ.of_map (opp ts) K m in
          let f = from r.0 r.1 in
          let b = f.0 in
          Memᴰ.cast (sym r.2) (in_filter (λ d. eqb (tip ts d) w)
          (in_outgoing ts x (opp ts r.0) (short (opp ts r.0) (s.dart r.0 b)) (s.reverses r.0 b ∙ sym (tip_is ts r.0) ∙ f.2))
          (eq-eqb (tip ts (opp ts r.0)) w (tip_is ts (opp ts r.0) ∙ tip-opp s r.0 b ∙ f.1)))

  pub joins-both : (w x : ℕ) → joins ts w x ≡ joins ts x w
  joins-both w x = omega (arith, joins-less w x, joins-less x w)

  -- one dart leads from w to x
  pub joins-one : (w x d : ℕ) → d < 3 * T → org ts d ≡ w → tip ts d ≡ x → joins ts w x ≡ 1
  unfolding joins met
  joins-one w x d b e t =
      let K = filter (λ d. eqb (tip ts d) x) (outgoing ts w) in
      let one : Distinct (d ∷ []) = cons {x = d} Memᴰ.not-nil nil in
      let here : d ∈ K = in_filter (λ d. eqb (tip ts d) x) (in_outgoing ts w d (short d b) e) (eq-eqb (tip ts d) x t) in
      let up = distinct_within (distinct_filter (λ d. eqb (tip ts d) x) (distinct_outgoing ts w)) (d ∷ []) (λ y m.
      let r = filter_in (λ d. eqb (tip ts d) x) (outgoing ts w) m in
      let l = outgoing_in ts w r.0 in
      Memᴰ.head (s.once y d (long y l.0) b (l.1 ∙ sym e) (sym (tip_is ts y) ∙ eqb-true (tip ts y) x r.1 ∙ sym t ∙ tip_is ts d))) in
      let down = distinct_within one K (λ y m. Memᴰ.cast (Memᴰ.eq_of_singleton m) here) in
      omega (arith, up, down)
