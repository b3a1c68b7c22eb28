-- Row 8: the rounds that grow the outer triangle's piece reach just the triangles that steps across sides join to it. Assumes nothing.
use Prim.Native.Nat.{ℕ, zero, suc, ◌+◌, ◌-◌, ◌*◌, ◌/◌, ◌≤◌, ◌<◌}
use Rattle.std.specs.Prelude.{◌≡◌, ◌⊎◌, ◌↔◌, Bool, false, ◌||◌}
use Rattle.std.proofs.Math.Path.{refl}
use Rattle.std.proofs.Common.{sym, subst, arith}
use Rattle.std.proofs.Math.Logic.{inl, inr}
use mathlib.Core.List.Memᴰ
use mathlib.Core.List.{List, [], ◌∷◌}
use Rattle.std.proofs.Math.Decide.{dec_le}
use Rattle.std.proofs.Math.ListN.{length}
use Rattle.definitions.specs.Lists.{upto, any, elem, iterate}
use Rattle.definitions.specs.Mesh.{tri, corners, triangles, opp, expand, component, row8}
use Rattle.laws.specs.Chain.{Chain, stop, step}
use Rattle.laws.specs.Lists.{◌∈◌, or_either, or_left, or_right, filter_in, in_filter, any-true, true-any, elem-true, true-elem, iterate-suc, upto_in}
use Rattle.laws.specs.Lists.{in_upto, length-upto}
use Rattle.laws.specs.Counting.{Distinct, nil, cons, distinct_filter, distinct_upto, distinct_within, distinct_full}
use Rattle.theory_sphere.specs.Darts.{tri-below, below-tri, corners_in_lem, in_corners}
use Rattle.theory_sphere.specs.Rows.{row8_means}

module _ (ts : List ℕ) where
  -- steps across sides lead from triangle t to the outer one
  abbrev pub Joined : ℕ → Type 0
  Joined t = Chain (λ d. d < 3 * (length ts / 3)) tri (λ d. tri (opp ts d)) 0 t

  meets : List ℕ → ℕ → Bool
  meets reached t = elem t reached || any (λ d. elem (tri (opp ts d)) reached) (corners t)

  -- what a round reaches: what was reached, and what a step across a side joins to it
  pub expand_in : {t : ℕ} (reached : List ℕ) → t ∈ expand ts reached
      → (t < length ts / 3) × ((t ∈ reached) ⊎ ((d : ℕ) × (tri d ≡ t) × (tri (opp ts d) ∈ reached)))
  unfolding expand triangles meets
  expand_in {t} reached m =
      let r = filter_in (meets reached) (triangles ts) m in (
        upto_in (length ts / 3) r.0,
        elim (or_either (elem t reached) (any (λ d. elem (tri (opp ts d)) reached) (corners t)) r.1) [
          | inl e ↦ inl (elem-true t reached e)
          | inr e ↦
              let s = any-true (λ d. elem (tri (opp ts d)) reached) (corners t) e in
              inr (s.0, corners_in_lem t s.1, elem-true (tri (opp ts s.0)) reached s.2)
        ],
      )

  pub expand_keeps : (reached : List ℕ) (t : ℕ) → t < length ts / 3 → t ∈ reached → t ∈ expand ts reached
  unfolding expand triangles meets
  expand_keeps reached t h m =
      in_filter (meets reached) (in_upto (length ts / 3) t h)
      (or_left (elem t reached) (any (λ d. elem (tri (opp ts d)) reached) (corners t)) (true-elem m))

  pub expand_adds : (reached : List ℕ) (d : ℕ) → d < 3 * (length ts / 3) → tri (opp ts d) ∈ reached → tri d ∈ expand ts reached
  unfolding expand triangles meets
  expand_adds reached d h m =
      in_filter (meets reached) (in_upto (length ts / 3) (tri d) (tri-below (length ts / 3) d h))
      (or_right (elem (tri d) reached) (any (λ d. elem (tri (opp ts d)) reached) (corners (tri d)))
      (true-any (λ d. elem (tri (opp ts d)) reached) (in_corners d) (true-elem m)))

  pub distinct_expand : (reached : List ℕ) → Distinct (expand ts reached)
  unfolding expand triangles meets
  distinct_expand reached = distinct_filter (meets reached) (distinct_upto (length ts / 3))

  -- ---- what is reached is joined

  pub rounds_joined : (k t : ℕ) → t ∈ iterate (expand ts) k (0 ∷ []) → Joined t
  unfolding iterate
  rounds_joined zero t m = stop (Memᴰ.eq_of_singleton m)
  rounds_joined (suc k) t m = go (expand_in R (rw (iterate-suc (expand ts) k (0 ∷ [])) at m)) (rounds_joined k)
    where
      R : List ℕ
      R = iterate (expand ts) k (0 ∷ [])

      go : (t < length ts / 3) × ((t ∈ R) ⊎ ((d : ℕ) × (tri d ≡ t) × (tri (opp ts d) ∈ R))) → ((t : ℕ) → t ∈ R → Joined t) → Joined t
      go r ih =
          elim r.1 [
            | inl a ↦ ih t a
            | inr s ↦ step s.0 (below-tri (length ts / 3) s.0 (rw s.1 r.0)) s.1 (ih (tri (opp ts s.0)) s.2)
          ]

  -- ---- what is joined is reached

  -- a set that a round does not add to
  abbrev Closed : List ℕ → Type 0
  Closed R = (t : ℕ) → t ∈ expand ts R → t ∈ R

  -- what holds of the outer triangle, and of a triangle where it holds across one of its sides, holds of all that are joined
  pub joined_holds : (P : ℕ → Type 0) → P 0 → ((d : ℕ) → d < 3 * (length ts / 3) → P (tri (opp ts d)) → P (tri d)) → {t : ℕ} → Joined t
      → P t
  joined_holds P z s (stop e) = subst P (sym e) z
  joined_holds P z s (step d h e c) = subst P e (s d h (joined_holds P z s c))

  module _ (some : 0 < length ts / 3) where
    abbrev after : ℕ → List ℕ
    after k = iterate (expand ts) k (0 ∷ [])

    after-below : (k t : ℕ) → t ∈ after k → t < length ts / 3
    unfolding iterate
    after-below zero t m = omega (arith, Memᴰ.eq_of_singleton m)
    after-below (suc k) t m = (expand_in (after k) (rw (iterate-suc (expand ts) k (0 ∷ [])) at m)).0

    after-suc : (k t : ℕ) → t ∈ after k → t ∈ after (suc k)
    after-suc k t m = rw (iterate-suc (expand ts) k (0 ∷ [])) (expand_keeps (after k) t (after-below k t m) m)

    after_more : (j i t : ℕ) → t ∈ after j → t ∈ after (i + j)
    after_more j zero t m = let e : 0 + j ≡ j = omega arith in rw e m
    after_more j (suc i) t m = let e : suc i + j ≡ suc (i + j) = omega arith in rw e (after-suc (i + j) t (after_more j i t m))

    after-outer : (k : ℕ) → 0 ∈ after k
    unfolding iterate
    after-outer zero = Memᴰ.head refl
    after-outer (suc k) = after-suc k 0 (after-outer k)

    after_distinct : (k : ℕ) → Distinct (after k)
    unfolding iterate
    after_distinct zero = cons (λ m. Memᴰ.not-nil m) nil
    after_distinct (suc k) = rw (iterate-suc (expand ts) k (0 ∷ [])) (distinct_expand (after k))

    after_short : (k : ℕ) → length (after k) ≤ length ts / 3
    after_short k =
        omega (
          arith,
          distinct_within (after_distinct k) (upto (length ts / 3)) (λ t m. in_upto (length ts / 3) t (after-below k t m)),
          length-upto (length ts / 3),
        )

    -- A round that does not add is the end, and each round before it adds at least one.
    ends : (k : ℕ) → ((j : ℕ) × (j ≤ k) × Closed (after j)) ⊎ (suc k ≤ length (after k))
    unfolding iterate
    ends zero = inr (omega arith)
    ends (suc k) = go (ends k) (dec_le (length (after (suc k))) (length (after k)))
      where
        full : length (after (suc k)) ≤ length (after k) → Closed (after k)
        full h t m =
            distinct_full (after_distinct k) (after (suc k)) (after-suc k) h t (rw (iterate-suc (expand ts) k (0 ∷ [])) m)

        go : ((j : ℕ) × (j ≤ k) × Closed (after j)) ⊎ (suc k ≤ length (after k)) → Dec (length (after (suc k)) ≤ length (after k))
            → ((j : ℕ) × (j ≤ suc k) × Closed (after j)) ⊎ (suc (suc k) ≤ length (after (suc k)))
        go (inl r) d = inl (r.0, omega (arith, r.1), r.2)
        go (inr h) (yes l) = inl (k, omega arith, full l)
        go (inr h) (no l) = let s : suc (suc k) ≤ length (after (suc k)) = omega arith in inr s

    pub joined_rounds : (t : ℕ) → Joined t → t ∈ after (length ts / 3)
    joined_rounds t c = go (ends (length ts / 3))
      where
        reached : (R : List ℕ) → Closed R → 0 ∈ R → t ∈ R
        reached R closed m = joined_holds (λ t. t ∈ R) m (λ d h k. closed (tri d) (expand_adds R d h k)) c

        go : ((j : ℕ) × (j ≤ length ts / 3) × Closed (after j)) ⊎ (suc (length ts / 3) ≤ length (after (length ts / 3))) →
            t ∈ after (length ts / 3)
        go (inl r) =
            let e : (length ts / 3 - r.0) + r.0 ≡ length ts / 3 = omega (arith, r.1) in
            rw e at (after_more r.0 (length ts / 3 - r.0) t (reached (after r.0) r.2 (after-outer r.0)))
        go (inr h) = absurd (omega (arith, after_short (length ts / 3)))

  -- row 8 finds nothing just where every triangle is joined to the outer one
  pub row8-joined : (row8 ts ≡ false) ↔ ((t : ℕ) → t < length ts / 3 → Joined t)
  unfolding component
  row8-joined = (
    λ e t h. rounds_joined (length ts / 3) t ((row8_means ts).0 e t h),
    λ f. (row8_means ts).1 (λ t h. joined_rounds (omega arith) t (f t h)),
  )
