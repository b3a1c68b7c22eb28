-- The maps of unit weights, 1 on one inner triangle u and 0 elsewhere: what the coordinates of any weights are summed from. Assumes nothing.
use Rattle.std.specs.Prelude.{ℕ, ◌+◌, ◌/◌, ◌≤◌, ◌<◌, ◌≡◌, Bool, cond, List, eqb, length}
use Rattle.definitions.specs.Mesh.{org}
use Rattle.definitions.specs.Labels.{outer, corner}
use Rattle.definitions.specs.Forward.{crosses}

abbrev pub bit : Bool → ℕ
bit b = cond b 1 0

-- b0 and b1 of vertex i under the weights 1 on u
abbrev pub unit0 : ℕ → List ℕ → List ℕ → ℕ → ℕ → ℕ
unit0 n ts ls u i = bit (crosses n ts ls 1 i u)

abbrev pub unit1 : ℕ → List ℕ → List ℕ → ℕ → ℕ → ℕ
unit1 n ts ls u i = bit (crosses n ts ls 0 i u)

-- the vertex at the corner of triangle t with label c
abbrev pub vertex_at : List ℕ → List ℕ → ℕ → ℕ → ℕ
vertex_at ts ls t c = org ts (corner ls t c)

-- 1 if the two triangles are the same
abbrev pub same? : ℕ → ℕ → ℕ
same? t u = bit (eqb t u)

pub record Units (n : ℕ) (ts ls : List ℕ) : Type 0 where
  -- an inner triangle's corners are vertices below n
  pub below : (t c : ℕ) → 0 < t → t < length ts / 3 → c < 3 → vertex_at ts ls t c < n
  -- no vertex has both
  pub inside : (u i : ℕ) → 0 < u → u < length ts / 3 → i < n → unit0 n ts ls u i + unit1 n ts ls u i ≤ 1
  -- each coordinate is greatest at the corner with its label, in triangle u itself by 1
  pub most0 : (u t c : ℕ) → 0 < u → u < length ts / 3 → 0 < t → t < length ts / 3 → 0 < c → c < 3 →
      unit0 n ts ls u (vertex_at ts ls t c) + same? t u ≤ unit0 n ts ls u (vertex_at ts ls t 0)
  pub most1 : (u t c : ℕ) → 0 < u → u < length ts / 3 → 0 < t → t < length ts / 3 → c < 3 → (c ≡ 1 → ⊥) →
      unit1 n ts ls u (vertex_at ts ls t c) + same? t u ≤ unit1 n ts ls u (vertex_at ts ls t 1)
  -- for the third, the sum of the two others is least there
  pub most2 : (u t c : ℕ) → 0 < u → u < length ts / 3 → 0 < t → t < length ts / 3 → c < 2 →
      unit0 n ts ls u (vertex_at ts ls t 2) + unit1 n ts ls u (vertex_at ts ls t 2) + same? t u
      ≤ unit0 n ts ls u (vertex_at ts ls t c) + unit1 n ts ls u (vertex_at ts ls t c)
  -- the outer vertices stand at their corners
  pub rim0 : (u : ℕ) → 0 < u → u < length ts / 3 → (unit0 n ts ls u (outer ts 0) ≡ 1) × (unit1 n ts ls u (outer ts 0) ≡ 0)
  pub rim1 : (u : ℕ) → 0 < u → u < length ts / 3 → (unit0 n ts ls u (outer ts 1) ≡ 0) × (unit1 n ts ls u (outer ts 1) ≡ 1)
  pub rim2 : (u : ℕ) → 0 < u → u < length ts / 3 → (unit0 n ts ls u (outer ts 2) ≡ 0) × (unit1 n ts ls u (outer ts 2) ≡ 0)
