-- Sums of signed numbers over a run of indices: how they change with one of them, which is greater, and how far from 0 they are; and counts of indices
-- that pass a test. Assumes nothing.
use Prim.Native.Nat.{ℕ, zero, suc, ◌+◌, ◌≤◌, ◌<◌}
use Rattle.std.specs.Prelude.{◌≡◌, ◌≢◌, Bool, true, false, length, ℤ, pos, negsuc, nat_abs, ◌+ℤ◌, ◌≤ℤ◌}
use Rattle.std.proofs.Math.Path.{refl, ap}
use Rattle.std.proofs.Common.{ap₂, ◌∙◌, inl, inr, arith}
use mathlib.Core.List.{List, [], ◌∷◌, map}
use Rattle.std.proofs.Math.Decide.{ℕ_discrete}
use Rattle.std.proofs.Math.ListN.{get_or}
use Rattle.std.specs.Int.Signed.{≤ℤ_refl}
use Rattle.definitions.specs.Lists.{range, filter, total, total_abs}
use Rattle.laws.specs.Lists.{tested, filter_same, range_in}
use Rattle.laws.specs.Integers.{up, dn, int, zabs, z+}

-- ---- runs

module _ {A : Type 0} where
  pub map-range-suc : (f : ℕ → A) (a k : ℕ) → map f (range (suc a) k) ≡ map (λ i. f (suc i)) (range a k)
  unfolding range
  map-range-suc f a zero = refl
  map-range-suc f a (suc k) = ap (λ (xs : List A). f (suc a) ∷ xs) (map-range-suc f (suc a) k)

  -- a list is what stands at its places
  pub map-get_or : (xs : List A) (d : A) → map (λ i. get_or xs i d) (range 0 (length xs)) ≡ xs
  unfolding range
  map-get_or [] d = refl
  map-get_or (x ∷ xs) d = ap (λ (ys : List A). x ∷ ys) (map-range-suc (λ i. get_or (x ∷ xs) i d) 0 (length xs) ∙ map-get_or xs d)

  -- with places numbered from 1
  pub map-get_or-suc : (x : A) (xs : List A) (d : A) → map (λ i. get_or (x ∷ xs) i d) (range 1 (length xs)) ≡ xs
  map-get_or-suc x xs d = map-range-suc (λ i. get_or (x ∷ xs) i d) 0 (length xs) ∙ map-get_or xs d

-- ---- sums over a run

-- a number for each of k indices from a on
abbrev pub sum : (ℕ → ℤ) → ℕ → ℕ → ℤ
sum f a k = total (map f (range a k))

-- equal terms, equal sums
pub sum_same : (f g : ℕ → ℤ) (a k : ℕ) → ((u : ℕ) → a ≤ u → u < a + k → f u ≡ g u) → sum f a k ≡ sum g a k
unfolding range total
sum_same f g a zero h = refl
sum_same f g a (suc k) h = ap₂ ◌+ℤ◌ (h a (omega arith) (omega arith)) (sum_same f g (suc a) k (λ u l m. h u (omega arith) (omega arith)))

-- terms that add up, sums that add up
pub sum-plus : (f g : ℕ → ℤ) (a k : ℕ) → sum (λ u. f u +ℤ g u) a k ≡ sum f a k +ℤ sum g a k
unfolding range total
sum-plus f g a zero = refl
sum-plus f g a (suc k) =
    let F = sum f (suc a) k in
    let G = sum g (suc a) k in
    let H = sum (λ u. f u +ℤ g u) (suc a) k in
    let e : H ≡ F +ℤ G = sum-plus f g (suc a) k in
    omega (int, z+ (f a) (g a), z+ F G, z+ (f a +ℤ g a) H, z+ (f a) F, z+ (g a) G, z+ (f a +ℤ F) (g a +ℤ G))

-- one term more by x, the sum more by x
pub sum_change : (f g : ℕ → ℤ) (t : ℕ) (x : ℤ) (a k : ℕ) → ((u : ℕ) → u ≢ t → g u ≡ f u) → g t ≡ f t +ℤ x → a ≤ t →
    t < a + k →
    sum g a k ≡ sum f a k +ℤ x
unfolding range total
sum_change f g t x a zero h e l m = absurd (omega arith)
sum_change f g t x a (suc k) h e l m =
    let F = sum f (suc a) k in
    let G = sum g (suc a) k in
    elim (ℕ_discrete a t) [
      | yes q ↦
          let here : g a ≡ f a +ℤ x = rw q e in
          let rest : G ≡ F = sum_same g f (suc a) k (λ u i j. h u (omega arith)) in
          omega (int, z+ (g a) G, z+ (f a) F, z+ (f a) x, z+ (f a +ℤ F) x)
      | no q ↦
          let here : g a ≡ f a = h a q in
          let rest : G ≡ F +ℤ x = sum_change f g t x (suc a) k h e (omega arith) (omega arith) in
          omega (int, z+ (g a) G, z+ (f a) F, z+ F x, z+ (f a +ℤ F) x)
    ]

-- no term greater, the sum not greater
pub sum-le : (f g : ℕ → ℤ) (a k : ℕ) → ((u : ℕ) → a ≤ u → u < a + k → f u ≤ℤ g u) → sum f a k ≤ℤ sum g a k
unfolding range total
sum-le f g a zero h = ≤ℤ_refl (pos 0)
sum-le f g a (suc k) h =
    let F = sum f (suc a) k in
    let G = sum g (suc a) k in
    let here : f a ≤ℤ g a = h a (omega arith) (omega arith) in
    let rest : F ≤ℤ G = sum-le f g (suc a) k (λ u l m. h u (omega arith) (omega arith)) in
    omega (int, z+ (f a) F, z+ (g a) G)

-- and with one term less by x, the sum less by x
pub sum_gap : (f g : ℕ → ℤ) (t : ℕ) (x : ℤ) (a k : ℕ) → ((u : ℕ) → a ≤ u → u < a + k → f u ≤ℤ g u) → (f t +ℤ x) ≤ℤ g t →
    a ≤ t → t < a + k →
    (sum f a k +ℤ x) ≤ℤ sum g a k
unfolding range total
sum_gap f g t x a zero h e l m = absurd (omega arith)
sum_gap f g t x a (suc k) h e l m =
    let F = sum f (suc a) k in
    let G = sum g (suc a) k in
    elim (ℕ_discrete a t) [
      | yes q ↦
          let here : (f a +ℤ x) ≤ℤ g a = rw q e in
          let rest : F ≤ℤ G = sum-le f g (suc a) k (λ u i j. h u (omega arith) (omega arith)) in
          omega (int, z+ (g a) G, z+ (f a) F, z+ (f a) x, z+ (f a +ℤ F) x)
      | no q ↦
          let here : f a ≤ℤ g a = h a (omega arith) (omega arith) in
          let rest : (F +ℤ x) ≤ℤ G = sum_gap f g t x (suc a) k (λ u i j. h u (omega arith) (omega arith)) e (omega arith) (omega arith) in
          omega (int, z+ (g a) G, z+ (f a) F, z+ F x, z+ (f a +ℤ F) x)
    ]

-- nothing to sum
pub sum_zero : (f : ℕ → ℤ) (a k : ℕ) → ((u : ℕ) → a ≤ u → u < a + k → f u ≡ pos 0) → sum f a k ≡ pos 0
unfolding range total
sum_zero f a zero h = refl
sum_zero f a (suc k) h = ap₂ ◌+ℤ◌ (h a (omega arith) (omega arith)) (sum_zero f (suc a) k (λ u l m. h u (omega arith) (omega arith)))

-- ---- how far from 0

part_abs : (c : ℤ) (p q : ℕ) → up c + q ≡ p + dn c → nat_abs c ≤ p + q
unfolding up dn
part_abs (pos c) p q e = omega arith
part_abs (negsuc c) p q e = omega arith

pub abs-+ : (a b : ℤ) → nat_abs (a +ℤ b) ≤ nat_abs a + nat_abs b
abs-+ a b = omega (arith, zabs a, zabs b, part_abs (a +ℤ b) (up a + up b) (dn a + dn b) (omega (arith, z+ a b)))

-- the sum is no further from 0 than its terms together
pub total_abs_lem : (xs : List ℤ) → nat_abs (total xs) ≤ total_abs xs
unfolding total total_abs
total_abs_lem [] = omega arith
total_abs_lem (x ∷ xs) = omega (arith, abs-+ x (total xs), total_abs_lem xs)

pub total_abs-le : (f g : ℕ → ℤ) → ((u : ℕ) → nat_abs (f u) ≤ nat_abs (g u)) → (us : List ℕ) → total_abs (map f us) ≤ total_abs (map g us)
unfolding total_abs
total_abs-le f g h [] = omega arith
total_abs-le f g h (u ∷ us) = omega (arith, h u, total_abs-le f g h us)

-- ---- counts over a run

filter-same-range : (p q : ℕ → Bool) (a k : ℕ) → ((u : ℕ) → a ≤ u → u < a + k → q u ≡ p u) →
    filter q (range a k) ≡ filter p (range a k)
filter-same-range p q a k h = filter_same q p (range a k) (λ u m. let r = range_in a k m in h u r.0 r.1)

-- where one more index passes a test, the count is one more
pub count_change : (p q : ℕ → Bool) (t a k : ℕ) → ((u : ℕ) → u ≢ t → q u ≡ p u) → p t ≡ false → q t ≡ true → a ≤ t → t < a + k →
    length (filter q (range a k)) ≡ suc (length (filter p (range a k)))
unfolding range filter
count_change p q t a zero h f g l m = absurd (omega arith)
count_change p q t a (suc k) h f g l m =
    elim (ℕ_discrete a t) [
      | yes e ↦
          let fa : p a ≡ false = rw e f in
          let ga : q a ≡ true = rw e g in
          let r : filter q (range (suc a) k) ≡ filter p (range (suc a) k) = filter-same-range p q (suc a) k (λ u i j. h u (omega arith)) in
          rw (fa, ga, r)
      | no d ↦
          let r = count_change p q t (suc a) k h f g (omega arith) (omega arith) in
          let s : q a ≡ p a = h a d in
          rw s (elim (tested (p a)) [ inl e ↦ rw e (ap suc r) | inr e ↦ rw e r ])
    ]
