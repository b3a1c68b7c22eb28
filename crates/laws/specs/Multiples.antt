-- A signed number taken several times, sums of such, and lists over a run of indices. Assumes nothing.
use Prim.Native.Nat.{ℕ, zero, suc, ◌+◌, ◌≤◌, ◌<◌}
use Rattle.std.specs.Prelude.{◌≡◌, Bool, true, false, cond, eqb, get_or, ℤ, pos, ◌+ℤ◌}
use Rattle.std.proofs.Math.Path.{refl, ap, ap₂}
use Rattle.std.proofs.Common.{sym, ◌∙◌, eq-eqb, ne_eqb}
use mathlib.Core.List.{◌∷◌, map}
use native.Mathlib.Omega.{arith}
use Rattle.std.proofs.Math.IntN.{+ℤ_idl, +ℤ_idr}
use Rattle.definitions.specs.Lists.{range}
use Rattle.laws.specs.Integers.{int, zpos, z+}
use Rattle.laws.specs.Sums.{sum, sum_same, sum-plus, sum_change, sum_zero}

-- k times z
unfoldable pub times : ℕ → ℤ → ℤ
times zero z = pos 0
times (suc k) z = z +ℤ times k z

pub times-plus : (j k : ℕ) (z : ℤ) → times (j + k) z ≡ times j z +ℤ times k z
unfolding times
times-plus zero k z =
    let e : 0 + k ≡ k = omega arith in
    rw e (omega (int, zpos 0, z+ (pos 0) (times k z)))
times-plus (suc j) k z =
    let e : suc j + k ≡ suc (j + k) = omega arith in
    let ih : times (j + k) z ≡ times j z +ℤ times k z = times-plus j k z in
    rw e (omega (int, z+ (times j z) (times k z), z+ z (times (j + k) z), z+ z (times j z), z+ (z +ℤ times j z) (times k z)))

-- 0 times, and once
pub times_none : (k : ℕ) (z : ℤ) → k ≡ 0 → times k z ≡ pos 0
unfolding times
times_none k z e = rw e

pub times-once : (k : ℕ) (z : ℤ) → k ≡ 1 → times k z ≡ z
unfolding times
times-once k z e = rw e (+ℤ_idr z)

-- a number that a test lets through, or 0
pub times-cond : (b : Bool) (k : ℕ) (z : ℤ) → cond b 1 0 ≡ k → cond b z (pos 0) ≡ times k z
times-cond true k z e = sym (times-once k z (sym e))
times-cond false k z e = sym (times_none k z (sym e))

-- ---- sums of multiples: each of the numbers z u, u from a to a + k - 1, taken m u times

abbrev pub weigh : (ℕ → ℕ) → (ℕ → ℤ) → ℕ → ℕ → ℤ
weigh m z a k = sum (λ u. times (m u) (z u)) a k

-- multiples that add up
pub weigh-plus : (l m o : ℕ → ℕ) (z : ℕ → ℤ) (a k : ℕ) → ((u : ℕ) → a ≤ u → u < a + k → l u ≡ m u + o u) →
    weigh l z a k ≡ weigh m z a k +ℤ weigh o z a k
weigh-plus l m o z a k h =
    sum_same (λ u. times (l u) (z u)) (λ u. times (m u) (z u) +ℤ times (o u) (z u)) a k
    (λ u i j. ap (λ (c : ℕ). times c (z u)) (h u i j) ∙ times-plus (m u) (o u) (z u))
    ∙ sum-plus (λ u. times (m u) (z u)) (λ u. times (o u) (z u)) a k

-- the same multiples, none, and one of each
pub weigh-same : (l m : ℕ → ℕ) (z : ℕ → ℤ) (a k : ℕ) → ((u : ℕ) → a ≤ u → u < a + k → l u ≡ m u) →
    weigh l z a k ≡ weigh m z a k
weigh-same l m z a k h = sum_same (λ u. times (l u) (z u)) (λ u. times (m u) (z u)) a k (λ u i j. ap (λ (c : ℕ). times c (z u)) (h u i j))

pub weigh-none : (m : ℕ → ℕ) (z : ℕ → ℤ) (a k : ℕ) → ((u : ℕ) → a ≤ u → u < a + k → m u ≡ 0) → weigh m z a k ≡ pos 0
weigh-none m z a k h = sum_zero (λ u. times (m u) (z u)) a k (λ u i j. times_none (m u) (z u) (h u i j))

pub weigh_each : (m : ℕ → ℕ) (z : ℕ → ℤ) (a k : ℕ) → ((u : ℕ) → a ≤ u → u < a + k → m u ≡ 1) → weigh m z a k ≡ sum z a k
weigh_each m z a k h = sum_same (λ u. times (m u) (z u)) z a k (λ u i j. times-once (m u) (z u) (h u i j))

-- one number alone
pub weigh-one : (t : ℕ) (z : ℕ → ℤ) (a k : ℕ) → a ≤ t → t < a + k → weigh (λ u. cond (eqb t u) 1 0) z a k ≡ z t
weigh-one t z a k h l =
    let g : ℕ → ℤ = λ u. times (cond (eqb t u) 1 0) (z u) in
    let here : g t ≡ z t = times-once (cond (eqb t t) 1 0) (z t) (ap (λ (b : Bool). cond b 1 0) (eq-eqb t t refl)) in
    let from : g t ≡ pos 0 +ℤ z t = here ∙ sym (+ℤ_idl (z t)) in
    let e = sum_change (λ u. pos 0) g t (z t) a k
    (λ u q. times_none (cond (eqb t u) 1 0) (z u) (ap (λ (b : Bool). cond b 1 0) (ne_eqb t u (λ i. q (sym i))))) from h l in
    let zero = sum_zero (λ u. pos 0) a k (λ u i j. refl) in
    e ∙ ap (λ (y : ℤ). y +ℤ z t) zero ∙ +ℤ_idl (z t)

-- ---- lists over a run of indices

module _ {A : Type 0} where
  -- the same at each index
  pub map-range-same : (f g : ℕ → A) (a k : ℕ) → ((u : ℕ) → a ≤ u → u < a + k → f u ≡ g u) → map f (range a k) ≡ map g (range a k)
  unfolding range
  map-range-same f g a zero h = refl
  map-range-same f g a (suc k) h =
      ap₂ ◌∷◌ (h a (omega arith) (omega arith)) (map-range-same f g (suc a) k (λ u i j. h u (omega arith) (omega arith)))

  -- what stands at a place
  pub get_or-map-range : (f : ℕ → A) (a k i : ℕ) (d : A) → i < k → get_or (map f (range a k)) i d ≡ f (a + i)
  unfolding range
  get_or-map-range f a zero i d h = absurd (omega arith)
  get_or-map-range f a (suc k) zero d h = let e : a ≡ a + 0 = omega arith in ap f e
  get_or-map-range f a (suc k) (suc i) d h = let e : suc a + i ≡ a + suc i = omega arith in get_or-map-range f (suc a) k i d (omega arith) ∙ ap f e
