-- The laws of the words on lists that the definitions use: what their tests say of members, and what members their lists have. Assumes nothing.
-- Membership is mathlib's `List.Memᴰ`, here x ∈ xs. A name says what a law starts from: `any-true` opens a test, `true-any` closes one.
use Prim.Native.Nat.{ℕ, zero, suc, ◌+◌, ◌-◌, ◌*◌, ◌≤◌, ◌<◌, min}
use Rattle.std.proofs.Math.Path.{◌≡◌, refl, ap, subst}
use Rattle.std.proofs.Common.{sym, ◌∙◌, get_or-append-add, eqb-true, eq-eqb}
use Rattle.std.specs.Prelude.{◌⊎◌, ◌↔◌, Bool, true, false, ◌&&◌, ◌||◌, eqb, get_or, set, ℤ, nat_abs, ◌+ℤ◌}
use Rattle.std.proofs.Math.Logic.{inl, inr}
use mathlib.Core.List.Memᴰ
use mathlib.Core.List.{List, [], ◌∷◌, ◌++◌, flat_map, Memᴰ}
use Rattle.std.proofs.Math.Option.{Option, none, some}
use native.Mathlib.Omega.{arith}
use Rattle.std.proofs.Math.Decide.{dec_le, ℕ_discrete}
use Rattle.std.proofs.Math.ListN.{length, length-append, get_or-append}
use Rattle.std.proofs.Math.IntN.{+ℤ_assoc, +ℤ_idl}
use Rattle.laws.specs.Integers.{int, z+}
use Rattle.definitions.specs.Lists.{range, upto, all, any, filter, iterate, elem, first_or, first, minimum, init, total, total_abs}

infix 50 ◌∈◌
abbrev pub ◌∈◌ : {A : Type 0} → A → List A → Type 0
x ∈ xs = Memᴰ x xs

-- ---- tests

-- a test passes or it does not, and never both
pub tested : (b : Bool) → (b ≡ true) ⊎ (b ≡ false)
tested true = inl refl
tested false = inr refl

pub clash : {X : Type 0} {b : Bool} → b ≡ true → b ≡ false → X
clash {b} p q = let z : ◌≡◌ {A = ℕ} 0 1 = cc in absurd (omega arith)

pub untrue : (b : Bool) → (b ≡ true → ⊥) → b ≡ false
untrue true h = absurd (h refl)
untrue false h = refl

pub unfalse : (b : Bool) → (b ≡ false → ⊥) → b ≡ true
unfalse true h = refl
unfalse false h = absurd (h refl)

pub and_both : (a b : Bool) → (a && b) ≡ true → (a ≡ true) × (b ≡ true)
and_both true b e = (refl, e)
and_both false b e = clash e refl

pub or_either : (a b : Bool) → (a || b) ≡ true → (a ≡ true) ⊎ (b ≡ true)
or_either true b e = inl refl
or_either false b e = inr e

pub or_neither : (a b : Bool) → (a || b) ≡ false → (a ≡ false) × (b ≡ false)
or_neither true b e = clash refl e
or_neither false b e = (refl, e)

pub or_left : (a b : Bool) → a ≡ true → (a || b) ≡ true
or_left a b e = rw e

pub or_right : (a b : Bool) → b ≡ true → (a || b) ≡ true
or_right true b e = refl
or_right false b e = e

-- ---- membership

module _ {A : Type 0} where
  -- a member stands at some place, and what stands at a place is a member
  pub in_get_or : {x : A} {xs : List A} (d : A) → x ∈ xs → (i : ℕ) × (i < length xs) × (get_or xs i d ≡ x)
  in_get_or d (Memᴰ.head e) = (0, omega arith, sym e)
  in_get_or d (Memᴰ.tail m) = let r = in_get_or d m in (suc r.0, omega (arith, r.1), r.2)

  pub get_or_in : (xs : List A) (i : ℕ) (d : A) → i < length xs → get_or xs i d ∈ xs
  get_or_in [] i d h = absurd (omega arith)
  get_or_in (x ∷ xs) zero d h = Memᴰ.head refl
  get_or_in (x ∷ xs) (suc i) d h = Memᴰ.tail (get_or_in xs i d (omega arith))

  -- a member divides its list
  pub in_split : {x : A} {xs : List A} → x ∈ xs → (ls : List A) × (rs : List A) × (xs ≡ ls ++ x ∷ rs)
  in_split {x} (Memᴰ.head {xs = ys} e) = ([], ys, ap (λ (z : A). z ∷ ys) (sym e))
  in_split (Memᴰ.tail {x = y} m) = let r = in_split m in (y ∷ r.0, r.1, ap (λ (zs : List A). y ∷ zs) r.2)

  pub in_middle : (ls : List A) (x : A) (rs : List A) → x ∈ ls ++ x ∷ rs
  in_middle ls x rs = Memᴰ.append_right ls (Memᴰ.head refl)

-- ---- all, any, keep

module _ {A : Type 0} (p : A → Bool) where
  pub all_true : {x : A} (xs : List A) → all p xs ≡ true → x ∈ xs → p x ≡ true
  unfolding all
  all_true xs e (Memᴰ.head {x = y} {xs = ys} q) = ap p q ∙ (and_both (p y) (all p ys) e).0
  all_true xs e (Memᴰ.tail {x = y} {xs = ys} m) = all_true ys (and_both (p y) (all p ys) e).1 m

  pub true-all : (xs : List A) → ((x : A) → x ∈ xs → p x ≡ true) → all p xs ≡ true
  unfolding all
  true-all [] h = refl
  true-all (x ∷ xs) h = rw (h x (Memᴰ.head refl)) (true-all xs (λ y m. h y (Memᴰ.tail m)))

  pub any-true : (xs : List A) → any p xs ≡ true → (x : A) × (x ∈ xs) × (p x ≡ true)
  unfolding any
  any-true [] e = clash e refl
  any-true (x ∷ xs) e =
      elim (or_either (p x) (any p xs) e) [
        | inl q ↦ (x, Memᴰ.head refl, q)
        | inr q ↦ let r = any-true xs q in (r.0, Memᴰ.tail r.1, r.2)
      ]

  pub true-any : {x : A} {xs : List A} → x ∈ xs → p x ≡ true → any p xs ≡ true
  unfolding any
  true-any (Memᴰ.head {x = y} {xs = ys} q) e = or_left (p y) (any p ys) (ap p (sym q) ∙ e)
  true-any (Memᴰ.tail {x = y} {xs = ys} m) e = or_right (p y) (any p ys) (true-any m e)

  pub any_false : (xs : List A) → any p xs ≡ false → {x : A} → x ∈ xs → p x ≡ false
  any_false xs e {x} m = untrue (p x) (λ q. clash (true-any m q) e)

  pub false-any : (xs : List A) → ((x : A) → x ∈ xs → p x ≡ false) → any p xs ≡ false
  false-any xs h = untrue (any p xs) (λ e. let r = any-true xs e in clash r.2 (h r.0 r.1))

  pub all-false : (xs : List A) → all p xs ≡ false → (x : A) × (x ∈ xs) × (p x ≡ false)
  unfolding all
  all-false [] e = clash refl e
  all-false (x ∷ xs) e =
      elim (tested (p x)) [
        | inr q ↦ (x, Memᴰ.head refl, q)
        | inl q ↦ let r = all-false xs (rw q at e) in (r.0, Memᴰ.tail r.1, r.2)
      ]

  -- the members of `filter` are those that pass
  pub filter_in : {x : A} (xs : List A) → x ∈ filter p xs → (x ∈ xs) × (p x ≡ true)
  unfolding filter
  filter_in [] m = absurd (Memᴰ.not-nil m)
  filter_in {x} (y ∷ ys) m =
      elim (tested (p y)) [
        | inl q ↦
            elim (Memᴰ.cases_cons (rw q at m)) [
              | inl e ↦ (Memᴰ.head e, ap p e ∙ q)
              | inr m' ↦ let r = filter_in ys m' in (Memᴰ.tail r.0, r.1)
            ]
        | inr q ↦ let r = filter_in ys (rw q at m) in (Memᴰ.tail r.0, r.1)
      ]

  pub in_filter : {x : A} {xs : List A} → x ∈ xs → p x ≡ true → x ∈ filter p xs
  unfolding filter
  in_filter {x} (Memᴰ.head {x = y} e) q = rw (ap p (sym e) ∙ q) (Memᴰ.head e)
  in_filter (Memᴰ.tail {x = y} m) q =
      elim (tested (p y)) [
        | inl z ↦ rw z (Memᴰ.tail (in_filter m q))
        | inr z ↦ rw z (in_filter m q)
      ]

  pub length-filter : (xs : List A) → length (filter p xs) ≤ length xs
  unfolding filter
  length-filter [] = omega arith
  length-filter (x ∷ xs) =
      elim (tested (p x)) [
        | inl q ↦ rw q (omega (arith, length-filter xs))
        | inr q ↦ rw q (omega (arith, length-filter xs))
      ]

  pub filter_append : (xs ys : List A) → filter p (xs ++ ys) ≡ filter p xs ++ filter p ys
  unfolding filter
  filter_append [] ys = refl
  filter_append (x ∷ xs) ys =
      elim (tested (p x)) [
        | inl q ↦ rw q (ap (λ (zs : List A). x ∷ zs) (filter_append xs ys))
        | inr q ↦ rw q (filter_append xs ys)
      ]

  pub filter-all : (xs : List A) → ((x : A) → x ∈ xs → p x ≡ true) → filter p xs ≡ xs
  unfolding filter
  filter-all [] h = refl
  filter-all (x ∷ xs) h = rw (h x (Memᴰ.head refl)) (ap (λ (zs : List A). x ∷ zs) (filter-all xs (λ y m. h y (Memᴰ.tail m))))

  pub filter_none : (xs : List A) → ((x : A) → x ∈ xs → p x ≡ false) → filter p xs ≡ []
  unfolding filter
  filter_none [] h = refl
  filter_none (x ∷ xs) h = rw (h x (Memᴰ.head refl)) (filter_none xs (λ y m. h y (Memᴰ.tail m)))

-- tests that agree on the members of a list give the same
module _ {A : Type 0} (p q : A → Bool) where
  pub filter_same : (xs : List A) → ((x : A) → x ∈ xs → p x ≡ q x) → filter p xs ≡ filter q xs
  unfolding filter
  filter_same [] h = refl
  filter_same (x ∷ xs) h =
      let e : p x ≡ q x = h x (Memᴰ.head refl) in
      let rest : filter p xs ≡ filter q xs = filter_same xs (λ y m. h y (Memᴰ.tail m)) in
      rw (e, rest)

-- ---- iterate

module _ {A : Type 0} (f : A → A) where
  pub iterate-suc : (k : ℕ) (x : A) → iterate f (suc k) x ≡ f (iterate f k x)
  unfolding iterate
  iterate-suc zero x = refl
  iterate-suc (suc k) x = iterate-suc k (f x)

  pub iterate-add : (j k : ℕ) (x : A) → iterate f (j + k) x ≡ iterate f k (iterate f j x)
  unfolding iterate
  iterate-add zero k x = let e : 0 + k ≡ k = omega arith in rw e
  iterate-add (suc j) k x = let e : suc j + k ≡ suc (j + k) = omega arith in rw e (iterate-add j k (f x))

-- ---- run, upto

pub length-range : (from k : ℕ) → length (range from k) ≡ k
unfolding range
length-range from zero = refl
length-range from (suc k) = ap suc (length-range (suc from) k)

pub range_in : {x : ℕ} (from k : ℕ) → x ∈ range from k → (from ≤ x) × (x < from + k)
unfolding range
range_in from zero m = absurd (Memᴰ.not-nil m)
range_in from (suc k) m =
    elim (Memᴰ.cases_cons m) [
      | inl e ↦ omega arith
      | inr m' ↦ let r = range_in (suc from) k m' in omega arith
    ]

pub in_range : (from k x : ℕ) → from ≤ x → x < from + k → x ∈ range from k
unfolding range
in_range from zero x h l = absurd (omega arith)
in_range from (suc k) x h l =
    elim (ℕ_discrete x from) [
      | yes e ↦ Memᴰ.head e
      | no n ↦ Memᴰ.tail (in_range (suc from) k x (omega arith) (omega arith))
    ]

pub get_or-range : (from k i d : ℕ) → i < k → get_or (range from k) i d ≡ from + i
unfolding range
get_or-range from zero i d h = absurd (omega arith)
get_or-range from (suc k) zero d h = omega arith
get_or-range from (suc k) (suc i) d h = get_or-range (suc from) k i d (omega arith) ∙ omega arith

pub range_append : (from j k : ℕ) → range from (j + k) ≡ range from j ++ range (from + j) k
unfolding range
range_append from zero k =
    let e : 0 + k ≡ k = omega arith in
    let e' : from + 0 ≡ from = omega arith in
    rw (e, e')
range_append from (suc j) k =
    let e : suc j + k ≡ suc (j + k) = omega arith in
    let e' : from + suc j ≡ suc from + j = omega arith in
    rw (e, e') (ap (λ (zs : List ℕ). from ∷ zs) (range_append (suc from) j k))

pub length-upto : (n : ℕ) → length (upto n) ≡ n
unfolding upto
length-upto n = length-range 0 n

pub upto_in : {x : ℕ} (n : ℕ) → x ∈ upto n → x < n
unfolding upto
upto_in n m = let r = range_in 0 n m in omega arith

pub in_upto : (n x : ℕ) → x < n → x ∈ upto n
unfolding upto
in_upto n x h = in_range 0 n x (omega arith) (omega arith)

pub get_or-upto : (n i d : ℕ) → i < n → get_or (upto n) i d ≡ i
unfolding upto
get_or-upto n i d h = get_or-range 0 n i d h ∙ omega arith

-- a test of all numbers below n, and of some number below n
pub upto-none : (p : ℕ → Bool) (n : ℕ) → any p (upto n) ≡ false → (x : ℕ) → x < n → p x ≡ false
upto-none p n e x h = any_false p (upto n) e (in_upto n x h)

pub none-upto : (p : ℕ → Bool) (n : ℕ) → ((x : ℕ) → x < n → p x ≡ false) → any p (upto n) ≡ false
none-upto p n h = false-any p (upto n) (λ x m. h x (upto_in n m))

pub upto_some : (p : ℕ → Bool) (n : ℕ) → any p (upto n) ≡ true → (x : ℕ) × (x < n) × (p x ≡ true)
upto_some p n e = let r = any-true p (upto n) e in (r.0, upto_in n r.1, r.2)

-- ---- elem

pub elem-true : (x : ℕ) (xs : List ℕ) → elem x xs ≡ true → x ∈ xs
unfolding elem
elem-true x xs e = let r = any-true (eqb x) xs e in Memᴰ.cast (eqb-true x r.0 r.2) r.1

pub true-elem : {x : ℕ} {xs : List ℕ} → x ∈ xs → elem x xs ≡ true
unfolding elem
true-elem {x} m = true-any (eqb x) m (eq-eqb x x refl)

pub elem-false : {x : ℕ} {xs : List ℕ} → elem x xs ≡ false → x ∈ xs → ⊥
elem-false e m = clash (true-elem m) e

pub false-elem : (x : ℕ) (xs : List ℕ) → (x ∈ xs → ⊥) → elem x xs ≡ false
false-elem x xs h = untrue (elem x xs) (λ e. h (elem-true x xs e))

pub dec_in : (x : ℕ) (xs : List ℕ) → Dec (x ∈ xs)
dec_in x xs = elim (tested (elem x xs)) [ inl e ↦ yes (elem-true x xs e) | inr e ↦ no (λ m. elem-false e m) ]

-- ---- seek, first: the first that passes

differ : {X : Type 0} {x : ℕ} → some x ≡ none → X
differ {x} e = let z : ◌≡◌ {A = ℕ} 0 1 = cc in absurd (omega arith)

-- x is the first member that passes
pub record First (p : ℕ → Bool) (xs : List ℕ) (x : ℕ) : Type 0 where
  pub ahead : List ℕ
  pub behind : List ℕ
  pub split : xs ≡ ahead ++ x ∷ behind
  pub before : any p ahead ≡ false
  pub passes : p x ≡ true

module _ (p : ℕ → Bool) where
  pub First-in : {xs : List ℕ} {x : ℕ} → First p xs x → x ∈ xs
  First-in {xs} {x} f = rw f.split (in_middle f.ahead x f.behind)

  later : {xs : List ℕ} {x : ℕ} (y : ℕ) → p y ≡ false → First p xs x → First p (y ∷ xs) x
  unfolding any
  later y q f =
      record {
        ahead = y ∷ f.ahead;
        behind = f.behind;
        split = ap (λ (zs : List ℕ). y ∷ zs) f.split;
        before = rw q f.before;
        passes = f.passes;
      }

  now : (x : ℕ) (xs : List ℕ) → p x ≡ true → First p (x ∷ xs) x
  unfolding any
  now x xs q = record { ahead = []; behind = xs; split = refl; before = refl; passes = q }

  -- `first` finds it where there is one
  pub first_some : (xs : List ℕ) (x : ℕ) → first p xs ≡ some x → First p xs x
  unfolding first
  first_some [] x e = let z : ◌≡◌ {A = ℕ} 0 1 = cc in absurd (omega arith)
  first_some (y ∷ ys) x e =
      elim (tested (p y)) [
        | inl q ↦ let s : some y ≡ some x = rw q at e in let i : y ≡ x = cc in subst (λ (z : ℕ). First p (y ∷ ys) z) i (now y ys q)
        | inr q ↦ later y q (first_some ys x (rw q at e))
      ]

  pub first-none : {x : ℕ} (xs : List ℕ) → first p xs ≡ none → x ∈ xs → p x ≡ false
  unfolding first
  first-none xs e (Memᴰ.head {x = y} i) =
      elim (tested (p y)) [
        | inl q ↦ let s : some y ≡ none = rw q at e in let z : ◌≡◌ {A = ℕ} 0 1 = cc in absurd (omega arith)
        | inr q ↦ ap p i ∙ q
      ]
  first-none xs e (Memᴰ.tail {x = y} {xs = ys} m) =
      elim (tested (p y)) [
        | inl q ↦ let s : some y ≡ none = rw q at e in let z : ◌≡◌ {A = ℕ} 0 1 = cc in absurd (omega arith)
        | inr q ↦ first-none ys (rw q at e) m
      ]

  pub first_is : (ls : List ℕ) (x : ℕ) (rs : List ℕ) → any p ls ≡ false → p x ≡ true → first p (ls ++ x ∷ rs) ≡ some x
  unfolding first any
  first_is [] x rs e q = rw q
  first_is (y ∷ ls) x rs e q = let r = or_neither (p y) (any p ls) e in rw r.0 (first_is ls x rs r.1 q)

  pub none_first : (xs : List ℕ) → any p xs ≡ false → first p xs ≡ none
  unfolding first any
  none_first [] e = refl
  none_first (x ∷ xs) e = let r = or_neither (p x) (any p xs) e in rw r.0 (none_first xs r.1)

  -- `first_or` does too, and gives the number that it is handed where there is none
  pub first_or-first : (d : ℕ) (xs : List ℕ) → any p xs ≡ true → First p xs (first_or p d xs)
  unfolding first_or any
  first_or-first d [] e = clash e refl
  first_or-first d (x ∷ xs) e =
      elim (tested (p x)) [
        | inl q ↦ rw q (now x xs q)
        | inr q ↦ rw q (later x q (first_or-first d xs (rw q at e)))
      ]

  pub first-first_or : (d : ℕ) (ls : List ℕ) (x : ℕ) (rs : List ℕ) → any p ls ≡ false → p x ≡ true → first_or p d (ls ++ x ∷ rs) ≡ x
  unfolding first_or any
  first-first_or d [] x rs e q = rw q
  first-first_or d (y ∷ ls) x rs e q = let r = or_neither (p y) (any p ls) e in rw r.0 (first-first_or d ls x rs r.1 q)

  pub first_or-none : (d : ℕ) (xs : List ℕ) → any p xs ≡ false → first_or p d xs ≡ d
  unfolding first_or any
  first_or-none d [] e = refl
  first_or-none d (x ∷ xs) e = let r = or_neither (p x) (any p xs) e in rw r.0 (first_or-none d xs r.1)

  pub first_or_in : (d : ℕ) (xs : List ℕ) → any p xs ≡ true → (first_or p d xs ∈ xs) × (p (first_or p d xs) ≡ true)
  first_or_in d xs e = let f = first_or-first d xs e in (First-in f, f.passes)

  -- where one member passes and no other does, it is found
  pub first_or_only : (d : ℕ) {xs : List ℕ} (x : ℕ) → x ∈ xs → p x ≡ true → ((y : ℕ) → y ∈ xs → p y ≡ true → y ≡ x) →
      first_or p d xs ≡ x
  first_or_only d {xs} x m q only = let r = first_or_in d xs (true-any p m q) in only (first_or p d xs) r.0 r.1

-- the first number from a on, of k numbers
module _ (p : ℕ → Bool) where
  pub first-at : (a k x : ℕ) → a ≤ x → x < a + k → ((y : ℕ) → a ≤ y → y < x → p y ≡ false) → p x ≡ true →
      first p (range a k) ≡ some x
  unfolding first range
  first-at a zero x h l b e = absurd (omega arith)
  first-at a (suc k) x h l b e =
      elim (ℕ_discrete a x) [
        | yes q ↦ rw (ap p q ∙ e) (ap some q)
        | no q ↦ rw (b a (omega arith) (omega arith)) (first-at (suc a) k x (omega arith) (omega arith) (λ y m n. b y (omega arith) n) e)
      ]

  pub first-not : (a k : ℕ) → ((x : ℕ) → a ≤ x → x < a + k → p x ≡ false) → first p (range a k) ≡ none
  first-not a k b = none_first p (range a k) (false-any p (range a k) (λ x m. let r = range_in a k m in b x r.0 r.1))

  first-least : (a k x : ℕ) → first p (range a k) ≡ some x → (y : ℕ) → a ≤ y → y < x → p y ≡ false
  unfolding first range
  first-least a zero x e y h l = differ (sym e)
  first-least a (suc k) x e y h l =
      elim (tested (p a)) [
        | inl q ↦ let s : some a ≡ some x = rw q at e in let i : a ≡ x = cc in absurd (omega arith)
        | inr q ↦
            elim (ℕ_discrete a y) [
              | yes i ↦ ap p (sym i) ∙ q
              | no i ↦ first-least (suc a) k x (rw q at e) y (omega arith) l
            ]
      ]

  -- the first of those below n is the lowest that passes
  pub first-upto : (n x : ℕ) → (first p (upto n) ≡ some x) ↔ ((x < n) × (p x ≡ true) × ((y : ℕ) → y < x → p y ≡ false))
  unfolding upto
  first-upto n x = (
    λ e.
        let f = first_some p (range 0 n) x e in
        (upto_in n (First-in p f), f.passes, λ y l. first-least 0 n x e y (omega arith) l),
    λ r. first-at 0 n x (omega arith) (omega (arith, r.0)) (λ y h l. r.2 y l) r.1,
  )

-- the same list of places, the same first
pub first_or-same : (p q : ℕ → Bool) (d : ℕ) (xs : List ℕ) → ((x : ℕ) → x ∈ xs → p x ≡ q x) → first_or p d xs ≡ first_or q d xs
unfolding first_or
first_or-same p q d [] h = refl
first_or-same p q d (x ∷ xs) h =
    let e : p x ≡ q x = h x (Memᴰ.head refl) in
    let rest : first_or p d xs ≡ first_or q d xs = first_or-same p q d xs (λ y m. h y (Memᴰ.tail m)) in
    rw (e, rest)

-- ---- least

pub minimum-none : (xs : List ℕ) → minimum xs ≡ none → xs ≡ []
unfolding minimum
minimum-none [] e = refl
minimum-none (x ∷ xs) e = go (minimum xs) refl
  where
    go : (o : Option ℕ) → minimum xs ≡ o → x ∷ xs ≡ []
    go none q = differ (rw q at e)
    go (some y) q = differ (rw q at e)

pub minimum_some : (xs : List ℕ) (x : ℕ) → minimum xs ≡ some x → (x ∈ xs) × ((y : ℕ) → y ∈ xs → x ≤ y)
unfolding minimum
minimum_some [] x e = differ (sym e)
minimum_some (a ∷ xs) x e = go (minimum_some xs) (minimum xs) refl
  where
    below : (z : ℕ) → x ≤ a → x ≤ z → ((y : ℕ) → y ∈ xs → z ≤ y) → (y : ℕ) → y ∈ a ∷ xs → x ≤ y
    below z g h r y (Memᴰ.head i) = omega arith
    below z g h r y (Memᴰ.tail m) = omega (arith, r y m)

    go : ((x : ℕ) → minimum xs ≡ some x → (x ∈ xs) × ((y : ℕ) → y ∈ xs → x ≤ y)) → (o : Option ℕ) → minimum xs ≡ o
        → (x ∈ a ∷ xs) × ((y : ℕ) → y ∈ a ∷ xs → x ≤ y)
    go ih none q =
        let s : some a ≡ some x = rw q at e in
        let i : a ≡ x = cc in
        let none_in : (y : ℕ) → y ∈ xs → a ≤ y = λ y m. absurd (Memᴰ.not-nil (rw (minimum-none xs q) at m)) in
        (Memᴰ.head (sym i), below a (omega arith) (omega arith) none_in)
    go ih (some z) q =
        let s : some (min a z) ≡ some x = rw q at e in
        let i : min a z ≡ x = cc in
        let r = ih z q in
        elim (dec_le a z) [
          | yes h ↦ let j : x ≡ a = omega arith in (Memᴰ.head j, below z (omega arith) (omega arith) r.1)
          | no h ↦ let j : x ≡ z = omega arith in (Memᴰ.tail (Memᴰ.cast j r.0), below z (omega arith) (omega arith) r.1)
        ]

-- ---- front

pub init_snoc : (xs : List ℕ) (x : ℕ) → init (xs ++ (x ∷ [])) ≡ xs
unfolding init
init_snoc [] x = refl
init_snoc (y ∷ []) x = refl
init_snoc (y ∷ z ∷ xs) x = ap (λ (zs : List ℕ). y ∷ zs) (init_snoc (z ∷ xs) x)

pub length-init : (xs : List ℕ) → length (init xs) ≡ length xs - 1
unfolding init
length-init [] = refl
length-init (x ∷ []) = refl
length-init (x ∷ y ∷ xs) = omega (arith, length-init (y ∷ xs))

pub init_in : {x : ℕ} (xs : List ℕ) → x ∈ init xs → x ∈ xs
unfolding init
init_in [] m = m
init_in (x ∷ []) m = absurd (Memᴰ.not-nil m)
init_in (x ∷ y ∷ xs) m =
    elim (Memᴰ.cases_cons m) [ inl e ↦ Memᴰ.head e | inr m' ↦ Memᴰ.tail (init_in (y ∷ xs) m') ]

pub get_or-init : (xs : List ℕ) (i d : ℕ) → suc i < length xs → get_or (init xs) i d ≡ get_or xs i d
unfolding init
get_or-init [] i d h = absurd (omega arith)
get_or-init (x ∷ []) i d h = absurd (omega arith)
get_or-init (x ∷ y ∷ xs) zero d h = refl
get_or-init (x ∷ y ∷ xs) (suc i) d h = get_or-init (y ∷ xs) i d (omega arith)

-- ---- total, total_abs

pub total_append : (xs ys : List ℤ) → total (xs ++ ys) ≡ total xs +ℤ total ys
unfolding total
total_append [] ys = sym (+ℤ_idl (total ys))
total_append (x ∷ xs) ys = ap (λ (z : ℤ). x +ℤ z) (total_append xs ys) ∙ sym (+ℤ_assoc x (total xs) (total ys))

-- with x at place i instead of what was there
pub total-set : (xs : List ℤ) (i : ℕ) (x d : ℤ) → i < length xs → total (set xs i x) +ℤ get_or xs i d ≡ total xs +ℤ x
unfolding total
total-set [] i x d h = absurd (omega arith)
total-set (y ∷ xs) zero x d h = omega (int, z+ x (total xs), z+ y (total xs), z+ (x +ℤ total xs) y, z+ (y +ℤ total xs) x)
total-set (y ∷ xs) (suc i) x d h =
    let e = total-set xs i x d (omega arith) in
    let s = total (set xs i x) in
    let g = get_or xs i d in
    omega (int, z+ y s, z+ (y +ℤ s) g, z+ s g, z+ y (total xs), z+ (y +ℤ total xs) x, z+ (total xs) x)

pub total_abs_append : (xs ys : List ℤ) → total_abs (xs ++ ys) ≡ total_abs xs + total_abs ys
unfolding total_abs
total_abs_append [] ys = omega arith
total_abs_append (x ∷ xs) ys = omega (arith, total_abs_append xs ys)

-- each number's absolute value is at most the sum of all of them
pub total_abs_in : {x : ℤ} {xs : List ℤ} → x ∈ xs → nat_abs x ≤ total_abs xs
unfolding total_abs
total_abs_in (Memᴰ.head e) = omega (arith, ap nat_abs e)
total_abs_in (Memᴰ.tail m) = omega (arith, total_abs_in m)

pub total_abs-set : (xs : List ℤ) (i : ℕ) (x d : ℤ) → i < length xs → total_abs (set xs i x) + nat_abs (get_or xs i d) ≡ total_abs xs + nat_abs x
unfolding total_abs
total_abs-set [] i x d h = absurd (omega arith)
total_abs-set (y ∷ xs) zero x d h = omega arith
total_abs-set (y ∷ xs) (suc i) x d h = omega (arith, total_abs-set xs i x d (omega arith))

-- ---- flat_map with blocks of one length

module _ {A B : Type 0} (f : A → List B) (k : ℕ) (block : (x : A) → length (f x) ≡ k) where
  pub length-flat_map : (xs : List A) → length (flat_map f xs) ≡ k * length xs
  unfolding flat_map
  length-flat_map [] = omega arith
  length-flat_map (x ∷ xs) = length-append (f x) (flat_map f xs) ∙ omega (arith, block x, length-flat_map xs)

  pub get_or-flat_map : (xs : List A) (i c : ℕ) (a : A) (b : B) → i < length xs → c < k
      → get_or (flat_map f xs) (k * i + c) b ≡ get_or (f (get_or xs i a)) c b
  unfolding flat_map
  get_or-flat_map [] i c a b h l = absurd (omega arith)
  get_or-flat_map (x ∷ xs) zero c a b h l =
      let e : k * 0 + c ≡ c = omega arith in
      rw e (get_or-append (f x) (flat_map f xs) b c (omega (arith, block x)))
  get_or-flat_map (x ∷ xs) (suc i) c a b h l =
      let e : k * suc i + c ≡ length (f x) + (k * i + c) = omega (arith, block x) in
      rw e (get_or-append-add (f x) (flat_map f xs) (k * i + c) b ∙ get_or-flat_map xs i c a b (omega arith) l)
