-- The place of a number in a list. Assumes nothing.
use Rattle.std.specs.Prelude.{ℕ, suc, ◌+◌, ◌<◌, ◌≡◌, refl, ◌≢◌, List, [], ◌∷◌, ◌++◌, length}
use Rattle.std.proofs.Common.{sym, inl, inr, arith}
use mathlib.Core.List.Memᴰ
use Rattle.std.proofs.Math.Decide.{ℕ_discrete}
use Rattle.laws.specs.Lists.{◌∈◌}

abbrev first_or_lem : {x w : ℕ} → Dec (x ≡ w) → ℕ → ℕ
first_or_lem (yes e) k = 0
first_or_lem (no e) k = suc k

-- how many members stand before the first w
pub position : List ℕ → ℕ → ℕ
position [] w = 0
position (x ∷ xs) w = first_or_lem (ℕ_discrete x w) (position xs w)

pub position_here : (w : ℕ) (xs : List ℕ) → position (w ∷ xs) w ≡ 0
unfolding position
position_here w xs = go (ℕ_discrete w w)
  where
    go : (d : Dec (w ≡ w)) → first_or_lem d (position xs w) ≡ 0
    go (yes e) = refl
    go (no e) = absurd (e refl)

pub position_later : (x w : ℕ) (xs : List ℕ) → x ≢ w → position (x ∷ xs) w ≡ suc (position xs w)
unfolding position
position_later x w xs n = go (ℕ_discrete x w)
  where
    go : (d : Dec (x ≡ w)) → first_or_lem d (position xs w) ≡ suc (position xs w)
    go (yes e) = absurd (n e)
    go (no e) = refl

-- a member's place is one of the list's
pub position_in : (xs ys : List ℕ) (w : ℕ) → w ∈ xs → position (xs ++ ys) w < length xs
position_in [] ys w m = absurd (Memᴰ.not-nil m)
position_in (x ∷ xs) ys w m =
    elim (ℕ_discrete x w) [
      | yes e ↦ rw (e, position_here w (xs ++ ys)) (omega arith)
      | no e ↦ elim (Memᴰ.cases_cons m) [
        | inl t ↦ absurd (e (sym t))
        | inr k ↦ omega (arith, position_later x w (xs ++ ys) e, position_in xs ys w k)
      ]
    ]

-- what is no member of the first of two lists stands after all of it
pub position_out : (xs ys : List ℕ) (w : ℕ) → (w ∈ xs → ⊥) → position (xs ++ ys) w ≡ length xs + position ys w
position_out [] ys w n = omega arith
position_out (x ∷ xs) ys w n = omega (
  arith,
  position_later x w (xs ++ ys) (λ e. n (Memᴰ.head (sym e))),
  position_out xs ys w (λ m. n (Memᴰ.tail m)),
)
