-- The words on lists and numbers that the definitions share. Definitions only.
use Rattle.std.specs.Prelude.{ℕ, zero, suc, ◌+◌, min, Bool, true, false, ◌&&◌, ◌||◌, cond, List, [], ◌∷◌, eqb, ℤ, pos, nat_abs, ◌+ℤ◌}
use Rattle.std.proofs.Math.Option.{Option, none, some}

-- `from`, `from` + 1, .., as many numbers as are asked for
unfoldable pub range : ℕ → ℕ → List ℕ
range from zero = []
range from (suc k) = from ∷ range (suc from) k

-- 0, 1, .., n - 1
unfoldable pub upto : ℕ → List ℕ
unfolding range
upto n = range 0 n

module _ {A : Type 0} where
  unfoldable pub all : (A → Bool) → List A → Bool
  all p [] = true
  all p (x ∷ xs) = p x && all p xs

  unfoldable pub any : (A → Bool) → List A → Bool
  any p [] = false
  any p (x ∷ xs) = p x || any p xs

  -- those that pass, in their order
  unfoldable pub filter : (A → Bool) → List A → List A
  filter p [] = []
  filter p (x ∷ xs) = cond (p x) (x ∷ filter p xs) (filter p xs)

  -- f of f of .. of x, as many times as are asked for
  unfoldable pub iterate : (A → A) → ℕ → A → A
  iterate f zero x = x
  iterate f (suc k) x = iterate f k (f x)

unfoldable pub elem : ℕ → List ℕ → Bool
unfolding any
elem x xs = any (eqb x) xs

-- the first that passes, or d where none does
unfoldable pub first_or : (ℕ → Bool) → ℕ → List ℕ → ℕ
first_or p d [] = d
first_or p d (x ∷ xs) = cond (p x) x (first_or p d xs)

-- the first that passes
unfoldable pub first : (ℕ → Bool) → List ℕ → Option ℕ
first p [] = none
first p (x ∷ xs) = cond (p x) (some x) (first p xs)

unfoldable pub minimum : List ℕ → Option ℕ
minimum [] = none
minimum (x ∷ xs) = elim (minimum xs) [ none ↦ some x | some y ↦ some (min x y) ]

-- all but the last
unfoldable pub init : List ℕ → List ℕ
init [] = []
init (x ∷ []) = []
init (x ∷ y ∷ xs) = x ∷ init (y ∷ xs)

-- the sum, and the sum of the absolute values
unfoldable pub total : List ℤ → ℤ
total [] = pos 0
total (x ∷ xs) = x +ℤ total xs

unfoldable pub total_abs : List ℤ → ℕ
total_abs [] = 0
total_abs (x ∷ xs) = nat_abs x + total_abs xs
