-- Document 01, "Labels": the peeling, the labels of corners, and the colours of sides. Definitions only.
use Prim.Native.Nat.{ℕ, zero, suc, ◌*◌}
use Rattle.std.specs.Prelude.{Bool, ◌&&◌, ◌||◌, length, get_or}
use Rattle.std.proofs.Math.Bool.{not, cond}
use mathlib.Core.List.{List, [], ◌∷◌, ◌++◌, map, flat_map}
use Rattle.std.proofs.Math.Option.{Option, none, some}
use Rattle.std.proofs.Math.Dec.{eqb}
use Rattle.definitions.specs.Lists.{all, filter, iterate, elem, first_or, minimum, init}
use Rattle.definitions.specs.Mesh.{tri, next, prev, corners, org, tip, opp, rotations, outgoing, inner}

-- The peeling so far: the frontier from v0 to v1, the vertices that have been removed, and a dart for each triangle that has been labelled, at its corner
-- with label 2.
pub record Peeling : Type 0 where
  pub frontier : List ℕ
  pub removed : List ℕ
  pub passed : List ℕ

-- The vertex before v, and the one after v, on a frontier. (0 where there is none: a frontier's ends are asked for neither.)
unfoldable pub before : ℕ → List ℕ → ℕ
before v [] = 0
before v (a ∷ []) = 0
before v (a ∷ b ∷ f) = cond (eqb b v) a (before v (b ∷ f))

unfoldable pub after : ℕ → List ℕ → ℕ
after v [] = 0
after v (a ∷ []) = 0
after v (a ∷ b ∷ f) = cond (eqb a v) b (after v (b ∷ f))

-- the frontier with `us` in the place of v and its two neighbours
unfoldable pub replace : ℕ → List ℕ → List ℕ → List ℕ
replace v us [] = []
replace v us (a ∷ []) = a ∷ []
replace v us (a ∷ b ∷ []) = a ∷ b ∷ []
replace v us (a ∷ b ∷ c ∷ f) = cond (eqb b v) (us ++ f) (a ∷ replace v us (b ∷ c ∷ f))

module _ (ts : List ℕ) where
  -- v0, v1 and v2: the outer triangle's vertices as listed are v0, v2, v1.
  unfoldable pub outer : ℕ → ℕ
  unfolding org
  outer zero = org ts 0
  outer (suc zero) = org ts 2
  outer (suc (suc c)) = org ts 1

  unfoldable pub start : Peeling
  unfolding outer
  start = record { frontier = outer 0 ∷ outer 2 ∷ outer 1 ∷ []; removed = []; passed = [] }

  -- the frontier vertices among v's remaining neighbours
  unfoldable pub frontier_neighbours : Peeling → ℕ → List ℕ
  unfolding filter elem outgoing tip
  frontier_neighbours p v = filter (λ u. not (elem u p.removed) && elem u p.frontier) (map (tip ts) (outgoing ts v))

  -- v is not v0 or v1, and its remaining neighbours include only two frontier vertices, those beside it
  unfoldable pub removable : Peeling → ℕ → Bool
  unfolding frontier_neighbours before after outer all
  removable p v =
      not (eqb v (outer 0)) && not (eqb v (outer 1)) && eqb (length (frontier_neighbours p v)) 2
      && all (λ u. eqb u (before v p.frontier) || eqb u (after v p.frontier)) (frontier_neighbours p v)

  -- the smallest-numbered frontier vertex that can be removed
  unfoldable pub next_removable : Peeling → Option ℕ
  unfolding removable filter minimum
  next_removable p = minimum (filter (removable p) p.frontier)

  -- the dart from v to u
  unfoldable pub dart_to : ℕ → ℕ → ℕ
  unfolding first_or outgoing tip
  dart_to v u = first_or (λ d. eqb (tip ts d) u) (length ts) (outgoing ts v)

  -- The darts from v to its remaining neighbours u1 .. uk, from the v0 side: turning round v from its neighbour before it on the frontier.
  unfoldable pub fan : Peeling → ℕ → List ℕ
  unfolding filter elem tip rotations outgoing dart_to before
  fan p v = filter (λ d. not (elem (tip ts d) p.removed)) (rotations ts (length (outgoing ts v)) (dart_to v (before v p.frontier)))

  -- v removed: u1 .. uk replace it and its two neighbours on the frontier, and the triangles v, uj, uj+1 are labelled.
  unfoldable pub remove : Peeling → ℕ → Peeling
  unfolding fan replace tip init
  remove p v =
      record {
        frontier = replace v (map (tip ts) (fan p v)) p.frontier;
        removed = v ∷ p.removed;
        passed = p.passed ++ init (fan p v);
      }

  unfoldable pub step : Peeling → Peeling
  unfolding next_removable remove
  step p = elim (next_removable p) [ none ↦ p | some v ↦ remove p v ]

  -- The whole peeling of a mesh on n vertices. v0 and v1 stay, so it stops by itself; on an accepted mesh it takes n - 2 steps (crate `theory_demand`,
  -- `always_labelled`).
  unfoldable pub peel : ℕ → Peeling
  unfolding start step iterate
  peel n = iterate step n start

-- The label of corner d: in each triangle v, uj, uj+1 the corner at v gets 2, at uj 0, at uj+1 1. (3 stands for none.)
unfoldable pub label_of : List ℕ → ℕ → ℕ
unfolding elem next prev
label_of passed d = cond (elem d passed) 2 (cond (elem (prev d) passed) 0 (cond (elem (next d) passed) 1 3))

-- the labels of a mesh on n vertices: of its inner triangles' corners, in listed order
unfoldable pub labels : ℕ → List ℕ → List ℕ
unfolding peel label_of corners inner flat_map
labels n ts = let passed = (peel ts n).passed in map (label_of passed) (flat_map corners (inner ts))

-- ---- colours, over any list of labels

-- the label of corner d: the outer triangle's corners have none
unfoldable pub label : List ℕ → ℕ → ℕ
label ls d = get_or (3 ∷ 3 ∷ 3 ∷ ls) d 3

-- the corner of triangle t that has label c
unfoldable pub corner : List ℕ → ℕ → ℕ → ℕ
unfolding label corners first_or
corner ls t c = first_or (λ d. eqb (label ls d) c) (3 * t) (corners t)

-- a side of the outer triangle, from either of its triangles
unfoldable pub rim : List ℕ → ℕ → Bool
unfolding tri opp
rim ts d = eqb (tri d) 0 || eqb (tri (opp ts d)) 0

module _ (ts ls : List ℕ) where
  -- The side of dart d has colour c and points to the tip of d: of an inner side the two corners there carry label c;
  -- a rim side joining v_c and v_d has colour c towards v_c and colour d towards v_d.
  unfoldable pub points : ℕ → ℕ → Bool
  unfolding rim tip outer label next opp
  points c d = cond (rim ts d) (eqb (tip ts d) (outer ts c)) (eqb (label ls (next d)) c && eqb (label ls (opp ts d)) c)
