-- The darts of a triangle: the laws of `tri`, `next`, `prev` and `corners`. Assumes nothing.
use Rattle.std.specs.Prelude.{ℕ, ◌*◌, ◌<◌, ◌≡◌, ◌≢◌, ◌⊎◌}
use Rattle.std.proofs.Common.{sym, inl, inr, arith}
use Rattle.std.proofs.Math.Decide.{ℕ_discrete}
use Rattle.definitions.specs.Mesh.{tri, next, prev, corners}
use Rattle.laws.specs.Lists.{◌∈◌, range_in, in_range}

pub next-prev : (d : ℕ) → next (prev d) ≡ d
unfolding next prev
next-prev d = omega arith

pub prev-next : (d : ℕ) → prev (next d) ≡ d
unfolding next prev
prev-next d = omega arith

pub next-next : (d : ℕ) → next (next d) ≡ prev d
unfolding next prev
next-next d = omega arith

pub prev-prev : (d : ℕ) → prev (prev d) ≡ next d
unfolding next prev
prev-prev d = omega arith

pub tri-next : (d : ℕ) → tri (next d) ≡ tri d
unfolding tri next
tri-next d = omega arith

pub tri-prev : (d : ℕ) → tri (prev d) ≡ tri d
unfolding tri prev
tri-prev d = omega arith

pub next-other : (d : ℕ) → next d ≢ d
unfolding next
next-other d = omega arith

pub prev-other : (d : ℕ) → prev d ≢ d
unfolding prev
prev-other d = omega arith

pub next-prev-other : (d : ℕ) → next d ≢ prev d
unfolding next prev
next-prev-other d = omega arith

pub next-below : (T d : ℕ) → d < 3 * T → next d < 3 * T
unfolding next
next-below T d h = omega arith

pub prev-below : (T d : ℕ) → d < 3 * T → prev d < 3 * T
unfolding prev
prev-below T d h = omega arith

-- a dart is below 3 T just where its triangle is below T
pub tri-below : (T d : ℕ) → d < 3 * T → tri d < T
unfolding tri
tri-below T d h = omega arith

pub below-tri : (T d : ℕ) → tri d < T → d < 3 * T
unfolding tri
below-tri T d h = omega arith

-- the three darts of a triangle
pub same-tri : (d e : ℕ) → tri d ≡ tri e → (e ≡ d) ⊎ (e ≡ next d) ⊎ (e ≡ prev d)
unfolding tri next prev
same-tri d e h =
    elim (ℕ_discrete e d) [
      | yes a ↦ inl a
      | no a ↦ elim (ℕ_discrete e (next d)) [ yes b ↦ inr (inl b) | no b ↦ let c : e ≡ prev d = omega arith in inr (inr c) ]
    ]

pub corners_in_lem : {d : ℕ} (t : ℕ) → d ∈ corners t → tri d ≡ t
unfolding corners tri
corners_in_lem t m = let r = range_in (3 * t) 3 m in omega arith

pub in_corners : (d : ℕ) → d ∈ corners (tri d)
unfolding corners tri
in_corners d = in_range (3 * tri d) 3 d (omega arith) (omega arith)

pub corner-cases : (d e : ℕ) → tri e ≡ tri d → (e ≡ d) ⊎ (e ≡ next d) ⊎ (e ≡ prev d)
corner-cases d e h = same-tri d e (sym h)

-- the first dart of a triangle, and the darts of the outer triangle
pub tri-first : (t : ℕ) → tri (3 * t) ≡ t
unfolding tri
tri-first t = omega arith

pub tri-outer : (d : ℕ) → d < 3 → tri d ≡ 0
unfolding tri
tri-outer d h = omega arith

pub outer-tri : (d : ℕ) → tri d ≡ 0 → d < 3
unfolding tri
outer-tri d h = omega arith
