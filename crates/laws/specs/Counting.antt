-- Lists without a repeated member, and what may be counted by them. Assumes nothing.
use Rattle.std.specs.Prelude.{ℕ, zero, suc, ◌+◌, ◌≤◌, ◌<◌, ◌≡◌, refl, Bool, not, List, [], ◌∷◌, ◌++◌, map, length, get_or}
use Rattle.std.proofs.Common.{sym, ap, arith, length-append}
use Rattle.std.proofs.Math.Logic.{inl, inr}
use mathlib.Core.List.Memᴰ
use Rattle.definitions.specs.Lists.{range, upto, filter}
use Rattle.laws.specs.Lists.{◌∈◌, tested, filter_in, range_in, get_or_in, in_split, dec_in}

-- no member stands at two places
pub data Distinct {A : Type 0} : List A → Type 0 where
  nil : Distinct []
  cons : {x : A} {xs : List A} → (x ∈ xs → ⊥) → Distinct xs → Distinct (x ∷ xs)

module _ {A : Type 0} where
  pub distinct_head : {x : A} {xs : List A} → Distinct (x ∷ xs) → x ∈ xs → ⊥
  distinct_head (cons h d) = h

  pub distinct_tail : {x : A} {xs : List A} → Distinct (x ∷ xs) → Distinct xs
  distinct_tail (cons h d) = d

  -- what is not x of a list that holds x is in the rest of it
  apart : (ls rs : List A) (x : A) {y : A} → (y ≡ x → ⊥) → y ∈ ls ++ x ∷ rs → y ∈ ls ++ rs
  apart ls rs x h m =
      elim (Memᴰ.append_cases ls m) [
        | inl a ↦ Memᴰ.append_left rs a
        | inr b ↦ elim (Memᴰ.cases_cons b) [ inl e ↦ absurd (h e) | inr c ↦ Memᴰ.append_right ls c ]
      ]

  -- a list without repeats whose members are all in another is no longer than that one
  pub distinct_within : {xs : List A} → Distinct xs → (ys : List A) → ((x : A) → x ∈ xs → x ∈ ys) → length xs ≤ length ys
  distinct_within nil ys h = omega arith
  distinct_within (cons {x = x} {xs = xs} n d) ys h =
      let s = in_split (h x (Memᴰ.head refl)) in
      let rest : (y : A) → y ∈ xs → y ∈ s.0 ++ s.1 =
      λ y m. apart s.0 s.1 x (λ e. n (Memᴰ.cast (sym e) m)) (rw s.2 at (h y (Memᴰ.tail m))) in
      let i = distinct_within d (s.0 ++ s.1) rest in
      omega (arith, length-append s.0 s.1, ap length s.2, length-append s.0 (x ∷ s.1))

  -- different places hold different members
  pub distinct_get_or : {xs : List A} → Distinct xs → (i j : ℕ) (d : A) → i < length xs → j < length xs → get_or xs i d ≡ get_or xs j d → i ≡ j
  distinct_get_or nil i j d h l e = absurd (omega arith)
  distinct_get_or (cons n s) zero zero d h l e = refl
  distinct_get_or (cons {xs = xs} n s) zero (suc j) d h l e = absurd (n (Memᴰ.cast e (get_or_in xs j d (omega arith))))
  distinct_get_or (cons {xs = xs} n s) (suc i) zero d h l e = absurd (n (Memᴰ.cast (sym e) (get_or_in xs i d (omega arith))))
  distinct_get_or (cons n s) (suc i) (suc j) d h l e = ap suc (distinct_get_or s i j d (omega arith) (omega arith) e)

  -- a part of a list without repeats has none
  pub distinct_filter : (p : A → Bool) {xs : List A} → Distinct xs → Distinct (filter p xs)
  unfolding filter
  distinct_filter p nil = nil
  distinct_filter p (cons {x = x} {xs = xs} n d) =
      elim (tested (p x)) [
        | inl q ↦ rw q (cons (λ m. n (filter_in p xs m).0) (distinct_filter p d))
        | inr q ↦ rw q (distinct_filter p d)
      ]

  -- two lists without repeats and without a common member, one after the other
  pub distinct_append : {xs : List A} → Distinct xs → {ys : List A} → Distinct ys → ((x : A) → x ∈ xs → x ∈ ys → ⊥) →
      Distinct (xs ++ ys)
  distinct_append nil d h = d
  distinct_append (cons {x = x} {xs = xs} n c) {ys} d h =
      cons {x = x}
      (λ m. elim (Memᴰ.append_cases xs {t = ys} m) [ inl a ↦ n a | inr b ↦ h x (Memᴰ.head refl) b ])
      (distinct_append c d (λ y m. h y (Memᴰ.tail m)))

-- a function that tells the members apart
pub distinct_map : {A B : Type 0} (f : A → B) {xs : List A} → ((x y : A) → x ∈ xs → y ∈ xs → f x ≡ f y → x ≡ y) → Distinct xs →
    Distinct (map f xs)
distinct_map f inj nil = nil
distinct_map f inj (cons {x = x} {xs = xs} n d) =
    cons
    (λ m. let r = Memᴰ.of_map f xs m in n (Memᴰ.cast (inj x r.0 (Memᴰ.head refl) (Memᴰ.tail r.1) (sym r.2)) r.1))
    (distinct_map f (λ y z m k. inj y z (Memᴰ.tail m) (Memᴰ.tail k)) d)

-- numbers in order
pub distinct_range : (from k : ℕ) → Distinct (range from k)
unfolding range
distinct_range from zero = nil
distinct_range from (suc k) = cons {x = from} (λ m. let r = range_in (suc from) k m in omega arith) (distinct_range (suc from) k)

pub distinct_upto : (n : ℕ) → Distinct (upto n)
unfolding upto
distinct_upto n = distinct_range 0 n

-- a list without repeats within another that is no longer has every member of it
pub distinct_full : {xs : List ℕ} → Distinct xs → (ys : List ℕ) → ((x : ℕ) → x ∈ xs → x ∈ ys) → length ys ≤ length xs → (y : ℕ)
    → y ∈ ys → y ∈ xs
distinct_full {xs} d ys h l y m =
    elim (dec_in y xs) [
      | yes k ↦ k
      | no n ↦ absurd (omega (arith, distinct_within (cons n d) ys (more n)))
    ]
  where
    more : (y ∈ xs → ⊥) → (x : ℕ) → x ∈ y ∷ xs → x ∈ ys
    more n x k = elim (Memᴰ.cases_cons k) [ inl e ↦ Memᴰ.cast e m | inr k' ↦ h x k' ]

-- those that pass and those that do not are all
pub filter-not : {A : Type 0} (p : A → Bool) (xs : List A) → length (filter p xs) + length (filter (λ x. not (p x)) xs) ≡ length xs
unfolding filter
filter-not p [] = refl
filter-not p (x ∷ xs) =
    elim (tested (p x)) [
      | inl q ↦ rw q (omega (arith, filter-not p xs))
      | inr q ↦ rw q (omega (arith, filter-not p xs))
    ]
