-- Document 01, "Drawn points": scales, shares, and points snapped to coordinates. Definitions only.
use Rattle.std.specs.Prelude.{ℕ, zero, suc, ◌+◌, ◌*◌, ◌/◌, ◌%◌, ◌^◌, Bool, true, false, ◌&&◌, ◌||◌, cond, List, [], ◌∷◌, leb, ltb, eqb, ℤ, pos, neg_ℤ, ◌-ℤ◌, Float}
use Rattle.std.specs.Float.{nan, inf, fin}
use Rattle.std.specs.Float.Ieee.{up, down}
use Rattle.definitions.specs.Answers.{Answer, done, refused, numbered, share_outside}

-- what scale 0 stands for
abbrev pub default_scale : ℕ
default_scale = 20

-- the scale r that a call works with, where scale 0 stands for `usual`
unfoldable pub effective_scale : ℕ → ℕ → ℕ
effective_scale usual zero = usual
effective_scale usual (suc r) = suc r

-- a scale is 0 or runs from 4 to 24
unfoldable pub scale_allowed : ℕ → Bool
scale_allowed r = eqb r 0 || (leb 4 r && leb r 24)

-- The whole number nearest to a / b, and of two that are equally near the even one: the whole part where the rest is below a half, one more where it is
-- above, and at a half whichever of the two is even.
unfoldable pub nearest : ℕ → ℕ → ℕ
nearest a b = cond (ltb (2 * (a % b)) b) (a / b) (cond (ltb b (2 * (a % b))) (a / b + 1) (a / b + a / b % 2))

-- ± a, negative where the Bool is true
abbrev pub signed : Bool → ℕ → ℤ
signed false a = pos a
signed true a = neg_ℤ (pos a)

-- what becomes of a share
pub data Snap : Type 0 where
  whole : ℤ → Snap
  not_finite : Snap
  beyond : Float → Snap

-- A share at scale r. A finite f64 is the number ± m * 2 ^ e, that is ± m * up e / down e. A share outside -2 to 2 is refused. The nearest to a number
-- below 0 is that to its size, with the sign put back.
unfoldable pub snap : ℕ → Float → Snap
unfolding nearest
snap r nan = not_finite
snap r (inf s) = not_finite
snap r (fin s m e) =
    cond (ltb (2 * down e) (m * up e)) (beyond (fin s m e)) (whole (signed s (nearest (m * up e * 2 ^ r) (down e))))

-- Shares in order, two to a point, the share x of v0 before the share y of v1: the coordinates (kx, ky, 2 ^ r - kx - ky) of each point,
-- or the refusal of the first share that is refused.
unfoldable pub snap_all : ℕ → List Float → Answer (List ℤ)
unfolding snap
snap_all r [] = done []
snap_all r (x ∷ []) = done []
snap_all r (x ∷ y ∷ shares) =
    elim (snap r x) [
      | not_finite ↦ refused (numbered 15)
      | beyond share ↦ refused (share_outside share)
      | whole kx ↦
          elim (snap r y) [
            | not_finite ↦ refused (numbered 15)
            | beyond share ↦ refused (share_outside share)
            | whole ky ↦
                elim (snap_all r shares) [
                  | refused why ↦ refused why
                  | done bs ↦ done (kx ∷ ky ∷ (pos (2 ^ r) -ℤ kx -ℤ ky) ∷ bs)
                ]
          ]
    ]
