-- Lists whose members a function tells apart, and lists of halves of pairs: what may be counted by them. Assumes nothing.
use Rattle.std.specs.Prelude.{ℕ, zero, suc, ◌*◌, ◌≤◌, ◌<◌, ◌≡◌, refl, ◌≢◌, ◌⊎◌, List, [], ◌∷◌, ◌++◌, map, length, get_or}
use Rattle.std.proofs.Common.{sym, ap, ◌∙◌, inl, inr, arith, length-append}
use mathlib.Core.List.Memᴰ
use Rattle.std.proofs.lemmas.List.{length-map}
use Rattle.definitions.specs.Lists.{upto}
use Rattle.laws.specs.Lists.{◌∈◌, get_or_in, in_upto, length-upto}
use Rattle.laws.specs.Counting.{Distinct, nil, cons, distinct_within, distinct_append, distinct_map}

-- ---- f tells the members apart

abbrev pub Dist : (ℕ → ℕ) → List ℕ → Type 0
Dist f [] = Unit {0}
Dist f (x ∷ xs) = ((y : ℕ) → y ∈ xs → f x ≢ f y) × Dist f xs

module _ (f : ℕ → ℕ) where
  pub dist_left : (xs ys : List ℕ) → Dist f (xs ++ ys) → Dist f xs
  dist_left [] ys d = tt
  dist_left (x ∷ xs) ys d = (λ y m. d.0 y (Memᴰ.append_left ys m), dist_left xs ys d.1)

  pub dist_right : (xs ys : List ℕ) → Dist f (xs ++ ys) → Dist f ys
  dist_right [] ys d = d
  dist_right (x ∷ xs) ys d = dist_right xs ys d.1

  pub dist_cross : (xs ys : List ℕ) → Dist f (xs ++ ys) → (x y : ℕ) → x ∈ xs → y ∈ ys → f x ≢ f y
  dist_cross [] ys d x y m k = absurd (Memᴰ.not-nil m)
  dist_cross (a ∷ xs) ys d x y m k =
      elim (Memᴰ.cases_cons m) [
        | inl e ↦ rw e (d.0 y (Memᴰ.append_right xs k))
        | inr m' ↦ dist_cross xs ys d.1 x y m' k
      ]

  pub dist_append : (xs ys : List ℕ) → Dist f xs → Dist f ys → ((x y : ℕ) → x ∈ xs → y ∈ ys → f x ≢ f y) → Dist f (xs ++ ys)
  dist_append [] ys a b c = b
  dist_append (x ∷ xs) ys a b c = (
    λ y m. elim (Memᴰ.append_cases xs m) [ inl l ↦ a.0 y l | inr r ↦ c x y (Memᴰ.head refl) r ],
    dist_append xs ys a.1 b (λ u w m. c u w (Memᴰ.tail m)),
  )

  -- members with one value are the same
  pub dist_same : (xs : List ℕ) → Dist f xs → (x y : ℕ) → x ∈ xs → y ∈ xs → f x ≡ f y → x ≡ y
  dist_same [] d x y m k e = absurd (Memᴰ.not-nil m)
  dist_same (a ∷ xs) d x y m k e = go (Memᴰ.cases_cons m) (Memᴰ.cases_cons k) (dist_same xs d.1 x y)
    where
      go : (x ≡ a) ⊎ x ∈ xs → (y ≡ a) ⊎ y ∈ xs → (x ∈ xs → y ∈ xs → f x ≡ f y → x ≡ y) → x ≡ y
      go (inl p) (inl q) ih = p ∙ sym q
      go (inl p) (inr l) ih = absurd (d.0 y l (ap f (sym p) ∙ e))
      go (inr l) (inl q) ih = absurd (d.0 x l (ap f (sym q) ∙ sym e))
      go (inr l) (inr r) ih = ih l r e

  -- different places hold members with different values
  pub dist_get_or : (xs : List ℕ) → Dist f xs → (i j b : ℕ) → i < length xs → j < length xs → f (get_or xs i b) ≡ f (get_or xs j b) → i ≡ j
  dist_get_or [] d i j b h l e = absurd (omega arith)
  dist_get_or (x ∷ xs) d zero zero b h l e = refl
  dist_get_or (x ∷ xs) d zero (suc j) b h l e = absurd (d.0 (get_or xs j b) (get_or_in xs j b (omega arith)) e)
  dist_get_or (x ∷ xs) d (suc i) zero b h l e = absurd (d.0 (get_or xs i b) (get_or_in xs i b (omega arith)) (sym e))
  dist_get_or (x ∷ xs) d (suc i) (suc j) b h l e = ap suc (dist_get_or xs d.1 i j b (omega arith) (omega arith) e)

  pub dist_distinct : (xs : List ℕ) → Dist f xs → Distinct (map f xs)
  dist_distinct [] d = nil
  dist_distinct (x ∷ xs) d = cons {x = f x} (λ m. let r = Memᴰ.of_map f xs m in d.0 r.0 r.1 (sym r.2)) (dist_distinct xs d.1)

  pub dist_members : (xs : List ℕ) → Dist f xs → Distinct xs
  dist_members [] d = nil
  dist_members (x ∷ xs) d = cons {x = x} (λ m. d.0 x m refl) (dist_members xs d.1)

  pub distinct_dist : {xs : List ℕ} → ((x y : ℕ) → x ∈ xs → y ∈ xs → f x ≡ f y → x ≡ y) → Distinct xs → Dist f xs
  distinct_dist inj nil = tt
  distinct_dist inj (cons {x = x} n d) = (
    λ y m e. n (Memᴰ.cast (inj x y (Memᴰ.head refl) (Memᴰ.tail m) e) m),
    distinct_dist (λ y z m k. inj y z (Memᴰ.tail m) (Memᴰ.tail k)) d,
  )

-- ---- halves of pairs

module _ (o : ℕ → ℕ) where
  -- no pair is there twice, by the same half or by its two halves
  pub data Apart : List ℕ → Type 0 where
    none : Apart []
    more : {x : ℕ} {xs : List ℕ} → ((y : ℕ) → y ∈ xs → (x ≢ y) × (x ≢ o y)) → Apart xs → Apart (x ∷ xs)

  pub apart_append : {xs ys : List ℕ} → Apart xs → Apart ys → ((x y : ℕ) → x ∈ xs → y ∈ ys → (x ≢ y) × (x ≢ o y)) →
      Apart (xs ++ ys)
  apart_append none b c = b
  apart_append {ys} (more {x = x} {xs = xs} a as') b c =
      Apart.more {x = x}
      (λ y m. elim (Memᴰ.append_cases xs {t = ys} m) [ inl l ↦ a y l | inr r ↦ c x y (Memᴰ.head refl) r ])
      (apart_append as' b (λ u w m. c u w (Memᴰ.tail m)))

  pub apart_map : (f : ℕ → ℕ) {xs : List ℕ} → Distinct xs →
      ((x y : ℕ) → x ∈ xs → y ∈ xs → x ≢ y → (f x ≢ f y) × (f x ≢ o (f y))) → Apart (map f xs)
  apart_map f nil h = Apart.none
  apart_map f (cons {x = x} {xs = xs} n d) h =
      Apart.more {x = f x}
      (λ y m. let r = Memᴰ.of_map f xs m in
      rw (sym r.2) (h x r.0 (Memᴰ.head refl) (Memᴰ.tail r.1) (λ e. n (Memᴰ.cast e r.1))))
      (apart_map f d (λ u w a b. h u w (Memᴰ.tail a) (Memᴰ.tail b)))

  module _ (M : ℕ) (low : (x : ℕ) → x < M → o x < M) (back : (x : ℕ) → x < M → o (o x) ≡ x) (moves : (x : ℕ) → x < M → o x ≢ x) where
    halves : {xs : List ℕ} → Apart xs → ((x : ℕ) → x ∈ xs → x < M) → (x y : ℕ) → x ∈ xs → y ∈ xs → x ≢ o y
    halves none b x y m k e = absurd (Memᴰ.not-nil m)
    halves (more {x = a} {xs = xs} h hs) b x y m k e = go (Memᴰ.cases_cons m) (Memᴰ.cases_cons k)
        (halves hs (λ z l. b z (Memᴰ.tail l)) x y)
      where
        go : (x ≡ a) ⊎ x ∈ xs → (y ≡ a) ⊎ y ∈ xs → (x ∈ xs → y ∈ xs → x ≢ o y) → ⊥
        go (inl p) (inl q) ih = moves x (b x m) (ap o (p ∙ sym q) ∙ sym e)
        go (inl p) (inr l) ih = (h y l).1 (sym p ∙ e)
        go (inr l) (inl q) ih = (h x l).1 (sym q ∙ sym (back y (b y k)) ∙ ap o (sym e))
        go (inr l) (inr r) ih = ih l r e

    apart_distinct : {xs : List ℕ} → Apart xs → Distinct xs
    apart_distinct none = nil
    apart_distinct (more {x = x} h hs) = cons {x = x} (λ m. (h x m).0 refl) (apart_distinct hs)

    -- there are at most half as many pairs as numbers
    pub apart_count : (xs : List ℕ) → Apart xs → ((x : ℕ) → x ∈ xs → x < M) → 2 * length xs ≤ M
    apart_count xs a b =
        let d = apart_distinct a in
        let inj : (x y : ℕ) → x ∈ xs → y ∈ xs → o x ≡ o y → x ≡ y = λ x y m k e. sym (back x (b x m)) ∙ ap o e ∙ back y (b y k) in
        let both = distinct_append d (distinct_map o inj d) (λ x m k. let r = Memᴰ.of_map o xs k in halves a b x r.0 m r.1 (sym r.2)) in
        let w = distinct_within both (upto M) (λ x m. in_upto M x (elim (Memᴰ.append_cases xs m) [
          | inl l ↦ b x l
          | inr r ↦ let s = Memᴰ.of_map o xs r in rw (sym s.2) (low s.0 (b s.0 s.1))
        ])) in
        omega (arith, w, length-append xs (map o xs), length-map xs o, length-upto M)
