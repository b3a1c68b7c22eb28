-- Document 01, "Forward": the paths of a vertex, the colour-2 walk of a triangle, and the coordinates that weights give. Definitions only.
-- Here and below `ls` is any list of labels; the calls hand over those of the peeling.
use Prim.Native.Nat.{ℕ, zero, suc, ◌/◌}
use Rattle.std.specs.Prelude.{Bool, ◌||◌, eqb, length, get_or, ℤ, pos, ◌-ℤ◌}
use Rattle.std.proofs.Math.Bool.{true, false, cond}
use mathlib.Core.List.{List, [], ◌∷◌, map, flat_map}
use Rattle.std.proofs.Math.Option.{none, some}
use Rattle.definitions.specs.Lists.{upto, any, first, total}
use Rattle.definitions.specs.Mesh.{tri, next, tip, opp, outgoing, inner}
use Rattle.definitions.specs.Labels.{outer, corner, points}

-- the weight of triangle t: inner triangles are numbered from 1
unfoldable pub weight : List ℤ → ℕ → ℤ
weight ws t = get_or (pos 0 ∷ ws) t (pos 0)

module _ (ts ls : List ℕ) where
  -- The colour-c path of vertex i, as the darts along it: by the side of colour c that points away from i, and so on to v_c.
  -- k is more than it has sides: on an accepted mesh n is enough (crate `theory_crossings`, `path_enough`).
  unfoldable pub path : ℕ → ℕ → ℕ → List ℕ
  unfolding outer points outgoing tip first
  path c zero i = []
  path c (suc k) i =
      elim (eqb i (outer ts c)) [
        | true ↦ []
        | false ↦ elim (first (points ts ls c) (outgoing ts i)) [ none ↦ [] | some d ↦ d ∷ path c k (tip ts d) ]
      ]

  -- The colour-2 walk of triangle t, as the darts whose sides it crosses: the side opposite the corner with label 2, into the next triangle,
  -- and so on until the outer one. k is more than it has steps: on an accepted mesh the number of triangles is enough (crate `theory_crossings`,
  -- `walk_enough`).
  unfoldable pub walk : ℕ → ℕ → List ℕ
  unfolding corner next tri opp
  walk zero t = []
  walk (suc k) t =
      elim (eqb t 0) [ true ↦ [] | false ↦ let d = next (corner ls t 2) in d ∷ walk k (tri (opp ts d)) ]

-- two lists of darts share a side, whichever way their darts run along it
unfoldable pub share_side : List ℕ → List ℕ → List ℕ → Bool
unfolding any opp
share_side ts ds es = any (λ d. any (λ e. eqb d e || eqb d (opp ts e)) es) ds

module _ (n : ℕ) (ts ls : List ℕ) where
  -- the colour-2 walk of triangle t crosses a side on the colour-c path of vertex i
  unfoldable pub crosses : ℕ → ℕ → ℕ → Bool
  unfolding walk path share_side
  crosses c i t = share_side ts (walk ts ls (length ts / 3) t) (path ts ls c n i)

  -- the sum of the weights of the triangles whose colour-2 walk does that
  unfoldable pub crossed_weight : List ℤ → ℕ → ℕ → ℤ
  unfolding crosses inner weight total
  crossed_weight ws c i = total (map (λ t. cond (crosses c i t) (weight ws t) (pos 0)) (inner ts))

  -- b0, b1 and b2 of vertex i; N is the sum of the weights
  unfoldable pub coordinates_of : List ℤ → ℕ → List ℤ
  unfolding crossed_weight total
  coordinates_of ws i = let b0 = crossed_weight ws 1 i in let b1 = crossed_weight ws 0 i in b0 ∷ b1 ∷ (total ws -ℤ b0 -ℤ b1) ∷ []

  -- the coordinates of the weights, vertex by vertex
  unfoldable pub forward : List ℤ → List ℤ
  unfolding coordinates_of upto flat_map
  forward ws = flat_map (coordinates_of ws) (upto n)
