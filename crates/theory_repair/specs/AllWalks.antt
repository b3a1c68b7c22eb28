-- The walks of all three colours, as the triangles that they pass. Definitions only.
use Prim.Native.Nat.{ℕ, zero, suc}
use Rattle.std.proofs.Math.Bool.{true, false}
use mathlib.Core.List.{List, [], ◌∷◌}
use Rattle.std.specs.Prelude.{eqb}
use Rattle.definitions.specs.Mesh.{tri, next, opp}
use Rattle.definitions.specs.Labels.{corner}

module _ (ts ls : List ℕ) where
  -- the triangle across the side opposite the corner of t with label c
  unfoldable pub beyond : ℕ → ℕ → ℕ
  unfolding corner next tri opp
  beyond c t = tri (opp ts (next (corner ls t c)))

  -- t, the triangle beyond it, and so on until the outer one, of k at most
  unfoldable pub walk_triangles : ℕ → ℕ → ℕ → List ℕ
  unfolding beyond
  walk_triangles c zero t = []
  walk_triangles c (suc k) t = elim (eqb t 0) [ true ↦ [] | false ↦ t ∷ walk_triangles c k (beyond c t) ]
