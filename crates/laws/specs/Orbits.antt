-- The ways that a function leads round a finite set: on the members of a list without repeats, f is one-to-one and leads from members to members.
-- Assumes nothing.
use Prim.Native.Nat.{ℕ, zero, suc, ◌+◌, ◌-◌, ◌≤◌, ◌<◌}
use Rattle.std.specs.Prelude.{◌≡◌, ◌≢◌, ◌⊎◌, List, [], ◌∷◌, length}
use Rattle.std.proofs.Math.Path.{refl, sym, ap}
use Rattle.std.proofs.Common.{◌∙◌}
use Rattle.std.proofs.Math.Logic.{inl, inr}
use mathlib.Core.List.Memᴰ
use native.Mathlib.Omega.{arith}
use Rattle.std.proofs.Math.Decide.{dec_le, dec_lt, ℕ_discrete}
use Rattle.definitions.specs.Lists.{iterate}
use Rattle.laws.specs.Lists.{◌∈◌, iterate-suc, iterate-add}
use Rattle.laws.specs.Counting.{Distinct, nil, cons, distinct_within, distinct_full}

-- x, f x, f of f x, .., k numbers in all
unfoldable pub orbit : (ℕ → ℕ) → ℕ → ℕ → List ℕ
orbit f zero x = []
orbit f (suc k) x = x ∷ orbit f k (f x)

-- f leads from x back to x, for the first time after r steps
pub record Period (f : ℕ → ℕ) (x r : ℕ) : Type 0 where
  pub some : 0 < r
  pub back : iterate f r x ≡ x
  pub soonest : (k : ℕ) → 0 < k → k < r → iterate f k x ≢ x

module _ (f : ℕ → ℕ) where
  pub length-orbit : (k x : ℕ) → length (orbit f k x) ≡ k
  unfolding orbit
  length-orbit zero x = refl
  length-orbit (suc k) x = ap suc (length-orbit k (f x))

  pub orbit_in : {y : ℕ} (k x : ℕ) → y ∈ orbit f k x → (i : ℕ) × (i < k) × (iterate f i x ≡ y)
  unfolding orbit iterate
  orbit_in zero x m = absurd (Memᴰ.not-nil m)
  orbit_in (suc k) x m =
      elim (Memᴰ.cases_cons m) [
        | inl e ↦ (0, omega arith, sym e)
        | inr m' ↦ let r = orbit_in k (f x) m' in (suc r.0, omega (arith, r.1), r.2)
      ]

  pub in_orbit : (k x i : ℕ) → i < k → iterate f i x ∈ orbit f k x
  unfolding orbit iterate
  in_orbit zero x i h = absurd (omega arith)
  in_orbit (suc k) x zero h = Memᴰ.head refl
  in_orbit (suc k) x (suc i) h = Memᴰ.tail (in_orbit k (f x) i (omega arith))

  pub orbit-more : (j k x : ℕ) → j ≤ k → {y : ℕ} → y ∈ orbit f j x → y ∈ orbit f k x
  orbit-more j k x h m = let r = orbit_in j x m in Memᴰ.cast (sym r.2) (in_orbit k x r.0 (omega (arith, r.1)))

  -- there is one period at most
  pub period_unique : (x r s : ℕ) → Period f x r → Period f x s → r ≡ s
  period_unique x r s p q =
      elim (dec_lt r s) [
        | yes h ↦ absurd (q.soonest r p.some h p.back)
        | no h ↦ elim (dec_lt s r) [ yes g ↦ absurd (p.soonest s q.some g q.back) | no g ↦ omega arith ]
      ]

  -- one turn of the period meets all that is ever met
  pub period_covers : (x r : ℕ) → Period f x r → (k : ℕ) → iterate f k x ∈ orbit f r x
  unfolding iterate
  period_covers x r p zero = in_orbit r x 0 p.some
  period_covers x r p (suc k) = go (orbit_in r x (period_covers x r p k))
    where
      go : (i : ℕ) × (i < r) × (iterate f i x ≡ iterate f k x) → iterate f (suc k) x ∈ orbit f r x
      go t =
          let e : iterate f (suc k) x ≡ iterate f (suc t.0) x = iterate-suc f k x ∙ ap f (sym t.2) ∙ sym (iterate-suc f t.0 x) in
          elim (dec_lt (suc t.0) r) [
            | yes h ↦ Memᴰ.cast e (in_orbit r x (suc t.0) h)
            | no h ↦
                let s : suc t.0 ≡ r = omega (arith, t.1) in
                let b : iterate f (suc k) x ≡ x = e ∙ ap (λ (j : ℕ). iterate f j x) s ∙ p.back in
                Memᴰ.cast b (in_orbit r x 0 p.some)
          ]

  -- from what is met there is a way back
  pub period_return : (x r : ℕ) → Period f x r → (i : ℕ) → i ≤ r → iterate f (r - i) (iterate f i x) ≡ x
  period_return x r p i h = let e : i + (r - i) ≡ r = omega arith in sym (iterate-add f i (r - i) x) ∙ ap (λ (j : ℕ). iterate f j x) e ∙ p.back

  -- and so there is a way from anything that is met to anything that is met
  pub period_joins : (x r : ℕ) → Period f x r → {d e : ℕ} → d ∈ orbit f r x → e ∈ orbit f r x → (k : ℕ) × (iterate f k d ≡ e)
  period_joins x r p {d} {e} m l =
      let a = orbit_in r x m in
      let b = orbit_in r x l in
      let home : iterate f (r - a.0) d ≡ x = ap (iterate f (r - a.0)) (sym a.2) ∙ period_return x r p a.0 (omega (arith, a.1)) in
      ((r - a.0) + b.0, iterate-add f (r - a.0) b.0 d ∙ ap (iterate f b.0) home ∙ b.2)

module _ (f : ℕ → ℕ) (D : List ℕ) (stays : (x : ℕ) → x ∈ D → f x ∈ D)
    (inj : (x y : ℕ) → x ∈ D → y ∈ D → f x ≡ f y → x ≡ y) where
  pub iterate_stays : (k x : ℕ) → x ∈ D → iterate f k x ∈ D
  unfolding iterate
  iterate_stays zero x m = m
  iterate_stays (suc k) x m = iterate_stays k (f x) (stays x m)

  pub orbit_stays : (k x : ℕ) → x ∈ D → (y : ℕ) → y ∈ orbit f k x → y ∈ D
  orbit_stays k x m y l = let r = orbit_in f k x l in Memᴰ.cast (sym r.2) (iterate_stays r.0 x m)

  -- before the way comes back to x nothing is met twice
  pub distinct_orbit : (k x : ℕ) → x ∈ D → ((i : ℕ) → 0 < i → i < k → iterate f i x ≢ x) → Distinct (orbit f k x)
  unfolding orbit iterate
  distinct_orbit zero x m h = nil
  distinct_orbit (suc k) x m h =
      cons
      (λ l. let r = orbit_in f k (f x) l in h (suc r.0) (omega arith) (omega (arith, r.1)) r.2)
      (distinct_orbit k (f x) (stays x m) (λ i p q e.
      h i p (omega arith) (inj (iterate f i x) x (iterate_stays i x m) m (sym (iterate-suc f i x) ∙ e))))

  pub distinct_period : (x r : ℕ) → x ∈ D → Period f x r → Distinct (orbit f r x)
  distinct_period x r m p = distinct_orbit r x m p.soonest

  pub period_short : (x r : ℕ) → x ∈ D → Period f x r → r ≤ length D
  period_short x r m p = omega (arith, distinct_within (distinct_period x r m p) D (orbit_stays r x m), length-orbit f r x)

  -- the way does come back
  search_back : (x k : ℕ) → ((r : ℕ) × Period f x r) ⊎ ((i : ℕ) → 0 < i → i ≤ k → iterate f i x ≢ x)
  search_back x zero = inr (λ i p q. absurd (omega arith))
  search_back x (suc k) = go (search_back x k) (ℕ_discrete (iterate f (suc k) x) x)
    where
      none : ((i : ℕ) → 0 < i → i ≤ k → iterate f i x ≢ x) → iterate f (suc k) x ≢ x → (i : ℕ) → 0 < i → i ≤ suc k →
          iterate f i x ≢ x
      none h n i p q e =
          elim (dec_le i k) [
            | yes l ↦ h i p l e
            | no l ↦ let s : suc k ≡ i = omega arith in n (ap (λ (j : ℕ). iterate f j x) s ∙ e)
          ]

      go : ((r : ℕ) × Period f x r) ⊎ ((i : ℕ) → 0 < i → i ≤ k → iterate f i x ≢ x) → Dec (iterate f (suc k) x ≡ x)
          → ((r : ℕ) × Period f x r) ⊎ ((i : ℕ) → 0 < i → i ≤ suc k → iterate f i x ≢ x)
      go (inl r) d = inl r
      go (inr h) (yes e) = inl (suc k, record { some = omega arith; back = e; soonest = λ i p q. h i p (omega arith) })
      go (inr h) (no n) = inr (none h n)

  pub period : (x : ℕ) → x ∈ D → (r : ℕ) × Period f x r
  period x m = go (search_back x (length D))
    where
      go : ((r : ℕ) × Period f x r) ⊎ ((i : ℕ) → 0 < i → i ≤ length D → iterate f i x ≢ x) → (r : ℕ) × Period f x r
      go (inl r) = r
      go (inr h) =
          let d = distinct_orbit (suc (length D)) x m (λ i p q. h i p (omega arith)) in
          absurd (omega (arith, distinct_within d D (orbit_stays (suc (length D)) x m), length-orbit f (suc (length D)) x))

  -- A period as long as the list meets all of it, and where x leads to all of the list the period is that long.
  pub period_full : (x : ℕ) → x ∈ D → Period f x (length D) → (y : ℕ) → y ∈ D → y ∈ orbit f (length D) x
  period_full x m p =
      distinct_full (distinct_period x (length D) m p) D (orbit_stays (length D) x m) (omega (arith, length-orbit f (length D) x))

  pub full_period : Distinct D → (x r : ℕ) → x ∈ D → Period f x r → ((y : ℕ) → y ∈ D → (k : ℕ) × (iterate f k x ≡ y)) →
      r ≡ length D
  full_period distinct x r m p leads =
      let all_in : (y : ℕ) → y ∈ D → y ∈ orbit f r x = λ y l. let t = leads y l in Memᴰ.cast (sym t.1) (period_covers f x r p t.0) in
      omega (arith, distinct_within distinct (orbit f r x) all_in, length-orbit f r x, period_short x r m p)
