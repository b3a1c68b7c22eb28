-- Document 01, "Repair", with C-21: area numbers, the raise, the first raise where N is below 1, and the loop that raises. Definitions only.
use Prim.Native.Nat.{ℕ, zero, suc, ◌-◌, ◌*◌}
use Rattle.std.specs.Prelude.{Bool, not, ◌&&◌, cond, ltb, set, ℤ, ◌+ℤ◌, ◌-ℤ◌, ◌*ℤ◌}
use Rattle.std.proofs.Math.Bool.{true, false}
use mathlib.Core.List.{List, [], ◌∷◌, ◌++◌}
use Rattle.std.proofs.Math.Option.{none, some}
use Rattle.std.proofs.Math.IntN.{pos}
use Rattle.std.specs.Int.Signed.{le_z}
use Rattle.definitions.specs.Lists.{filter, first, total, total_abs}
use Rattle.definitions.specs.Mesh.{org, inner}
use Rattle.definitions.specs.Labels.{corner}
use Rattle.definitions.specs.Forward.{weight, forward}
use Rattle.definitions.specs.Backward.{coordinate}

-- L, the limit on the sum of the weights' absolute values and on each coordinate
abbrev pub limit : ℕ
limit = 1_073_741_823

unfoldable pub max_z : ℤ → ℤ → ℤ
max_z a b = cond (le_z a b) b a

module _ (ts ls : List ℕ) (bs : List ℤ) where
  -- coordinate c at the corner of triangle t that has label a
  unfoldable pub corner_coordinate : ℕ → ℕ → ℕ → ℤ
  unfolding coordinate org corner
  corner_coordinate c t a = coordinate bs c (org ts (corner ls t a))

  -- the area number D of triangle t, with corners p, q, r labelled 0, 1, 2
  unfoldable pub area : ℕ → ℤ
  unfolding corner_coordinate
  area t =
      (corner_coordinate 0 t 1 -ℤ corner_coordinate 0 t 0) *ℤ (corner_coordinate 1 t 2 -ℤ corner_coordinate 1 t 0)
      -ℤ (corner_coordinate 1 t 1 -ℤ corner_coordinate 1 t 0) *ℤ (corner_coordinate 0 t 2 -ℤ corner_coordinate 0 t 0)

  -- flat or turned
  unfoldable pub bad : ℕ → Bool
  unfolding area
  bad t = le_z (area t) (pos 0)

  -- the greater coordinate c at the corners with labels a and b, less that at the corner with label c
  unfoldable pub deficit : ℕ → ℕ → ℕ → ℕ → ℤ
  unfolding corner_coordinate max_z
  deficit t c a b = max_z (corner_coordinate c t a) (corner_coordinate c t b) -ℤ corner_coordinate c t c

  -- 1 + m
  unfoldable pub raise : ℕ → ℤ
  unfolding deficit max_z
  raise t = pos 1 +ℤ max_z (deficit t 0 1 2) (max_z (deficit t 1 0 2) (deficit t 2 0 1))

-- How repair ended: no triangle is bad any more; the next raise would break 9; or the loop's fuel ran out, which never happens on an accepted mesh: no
-- triangle is raised twice, and fuel and first raise together are one more than there are inner triangles (crate `theory_demand`, `ends`).
pub data Ending : Type 0 where
  finished stopped out_of_fuel : Ending

-- the weights at the end, and the triangles that were raised, in order
pub record RepairState : Type 0 where
  pub ending : Ending
  pub weights : List ℤ
  pub raises : List ℕ

-- the weights with x added to that of triangle t
unfoldable pub add_to : List ℤ → ℕ → ℤ → List ℤ
unfolding weight
add_to ws t x = set ws (t - 1) (weight ws t +ℤ x)

module _ (n : ℕ) (ts ls : List ℕ) where
  -- While some inner triangle is bad, the lowest-numbered one is raised.
  unfoldable pub repair_loop : ℕ → List ℤ → List ℕ → RepairState
  unfolding forward bad raise add_to first inner total_abs
  repair_loop zero ws rs = record { ending = out_of_fuel; weights = ws; raises = rs }
  repair_loop (suc k) ws rs =
      let bs = forward n ts ls ws in
      elim (first (bad ts ls bs) (inner ts)) [
        | none ↦ record { ending = finished; weights = ws; raises = rs }
        | some t ↦
            let ws' = add_to ws t (raise ts ls bs t) in
            elim (ltb limit (total_abs ws')) [
              | true ↦ record { ending = stopped; weights = ws; raises = rs }
              | false ↦ repair_loop k ws' (rs ++ (t ∷ []))
            ]
      ]

  -- What triangle 1 is raised by where N, the total of the weights, is below 1: the larger of its own raise and 1 - N.
  unfoldable pub first_raise : List ℤ → ℤ
  unfolding forward raise max_z total
  first_raise ws = max_z (raise ts ls (forward n ts ls ws) 1) (pos 1 -ℤ total ws)

  -- Where N is below 1 at the start, triangle 1 is raised first, unless that would break 9; then the loop runs.
  unfoldable pub repair : List ℤ → RepairState
  unfolding repair_loop first_raise add_to total total_abs
  repair ws =
      elim (le_z (pos 1) (total ws)) [
        | true ↦ repair_loop (2 * n - 4) ws []
        | false ↦
            let ws' = add_to ws 1 (first_raise ws) in
            elim (ltb limit (total_abs ws')) [
              | true ↦ record { ending = stopped; weights = ws; raises = [] }
              | false ↦ repair_loop (2 * n - 5) ws' (1 ∷ [])
            ]
      ]

-- the inner triangles whose weights differ between two lists
unfoldable pub changed : List ℕ → List ℤ → List ℤ → List ℕ
unfolding filter inner weight
changed ts ws ws' = filter (λ t. not (le_z (weight ws t) (weight ws' t) && le_z (weight ws' t) (weight ws t))) (inner ts)
