-- Document 01, "Mesh and lent slices": darts and sides, and the mesh's own rows 3 to 8 of the table of refusals. Definitions only.
-- A mesh is n and the flat list `ts` of its triangles' vertex numbers, as it is lent. A mesh that rows 1 to 8 let through is accepted.
use Prim.Native.Nat.{ℕ, zero, suc, ◌+◌, ◌-◌, ◌*◌, ◌/◌, ◌%◌}
use Rattle.std.specs.Prelude.{Bool, ◌&&◌, ◌||◌, cond, length, get_or, take, drop}
use Rattle.std.proofs.Math.Bool.{false, not}
use mathlib.Core.List.{List, [], ◌∷◌, ◌++◌}
use Rattle.std.proofs.Math.Option.{Option, none, some}
use Rattle.std.proofs.Math.Dec.{leb, eqb}
use Rattle.definitions.specs.Lists.{range, upto, all, any, filter, iterate, elem, first_or, first}
use Rattle.definitions.specs.Answers.{Refusal, vertex_pinched, vertex_stray}

-- ---- the exact lengths of the slices that are lent for n vertices

abbrev pub triangles_length : ℕ → ℕ
triangles_length n = 3 * (2 * n - 4)

abbrev pub labels_length : ℕ → ℕ
labels_length n = 3 * (2 * n - 5)

abbrev pub weights_length : ℕ → ℕ
weights_length n = 2 * n - 5

abbrev pub coordinates_length : ℕ → ℕ
coordinates_length n = 3 * n

abbrev pub scratch_length : ℕ → ℕ
scratch_length n = 10 * n

abbrev pub points_length : ℕ → ℕ
points_length n = 2 * n

-- ---- the outer triangle

-- Document 02, C-12: the mesh with its outer triangle in front. The triangle at place `outer_place`, counted from 0, comes first, and the others follow as
-- listed: they are the inner ones, and their numbers from 1 are their places here. Every definition below is of triangles that stand so.
unfoldable pub fronted : ℕ → List ℕ → List ℕ
fronted outer_place ts = take 3 (drop (3 * outer_place) ts) ++ take (3 * outer_place) ts ++ drop (3 * outer_place + 3) ts

-- ---- darts

-- Dart 3t + k is corner k of triangle t, and stands for the side that leaves that corner: the triple (a, b, c) has the sides a to b, b to c, c to a.
unfoldable pub tri : ℕ → ℕ
tri d = d / 3

-- the next and the previous corner of the same triangle
unfoldable pub next : ℕ → ℕ
next d = 3 * (d / 3) + (d % 3 + 1) % 3

unfoldable pub prev : ℕ → ℕ
prev d = 3 * (d / 3) + (d % 3 + 2) % 3

unfoldable pub corners : ℕ → List ℕ
unfolding range
corners t = range (3 * t) 3

module _ (ts : List ℕ) where
  -- The side of dart d runs from its origin to its tip.
  unfoldable pub org : ℕ → ℕ
  org d = get_or ts d 0

  unfoldable pub tip : ℕ → ℕ
  unfolding org next
  tip d = org (next d)

  unfoldable pub darts : List ℕ
  unfolding upto
  darts = upto (length ts)

  -- Triangle 0, the first, is the outer one. The others are inner, numbered from 1 by place.
  unfoldable pub triangles : List ℕ
  unfolding upto
  triangles = upto (length ts / 3)

  unfoldable pub inner : List ℕ
  unfolding range
  inner = range 1 (length ts / 3 - 1)

  -- the same side; the opposite side
  unfoldable pub same : ℕ → ℕ → Bool
  unfolding org tip
  same d e = eqb (org d) (org e) && eqb (tip d) (tip e)

  unfoldable pub opposite : ℕ → ℕ → Bool
  unfolding org tip
  opposite d e = eqb (org e) (tip d) && eqb (tip e) (org d)

  -- the dart of the opposite side (no dart, where there is none)
  unfoldable pub opp : ℕ → ℕ
  unfolding opposite darts first_or
  opp d = first_or (opposite d) (length ts) darts

  -- one rotation about the origin: from the corner v of (v, a, b) to the corner v of (v, b, c)
  unfoldable pub rot : ℕ → ℕ
  unfolding opp prev
  rot d = opp (prev d)

  -- d, and the darts that further rotations lead to: k darts in all
  unfoldable pub rotations : ℕ → ℕ → List ℕ
  unfolding rot
  rotations zero d = []
  rotations (suc k) d = d ∷ rotations k (rot d)

  -- the darts that leave v: one for each triangle at v
  unfoldable pub outgoing : ℕ → List ℕ
  unfolding org darts filter
  outgoing v = filter (λ d. eqb (org d) v) darts

  -- ---- rows 3 to 8: what each of them finds

  unfoldable pub row3 : ℕ → Bool
  unfolding any
  row3 n = any (λ v. leb n v) ts

  -- a vertex twice in a triangle: a side from a vertex to itself
  unfoldable pub row4 : Bool
  unfolding org tip darts any
  row4 = any (λ d. eqb (org d) (tip d)) darts

  -- a side twice: two darts with one side
  unfoldable pub row5 : Bool
  unfolding same darts any
  row5 = any (λ d. any (λ e. not (eqb d e) && same d e) darts) darts

  -- a side lacks its opposite
  unfoldable pub row6 : Bool
  unfolding opposite darts any
  row6 = any (λ d. not (any (opposite d) darts)) darts

  -- The triangles at a vertex are one ring: there are some, and as many rotations as there are, begun at the first, meet them all.
  unfoldable pub ring : List ℕ → Bool
  unfolding rotations all elem
  ring [] = false
  ring (d ∷ ds) = let met = rotations (length (d ∷ ds)) d in all (λ e. elem e met) (d ∷ ds)

  -- a vertex in no triangle
  unfoldable pub stray : ℕ → Bool
  unfolding outgoing
  stray v = eqb (length (outgoing v)) 0

  -- a vertex whose triangles form several rings
  unfoldable pub pinched : ℕ → Bool
  unfolding stray ring outgoing
  pinched v = not (stray v) && not (ring (outgoing v))

  -- 7 or 25: the lowest vertex that is pinched or stray decides which, and is carried
  unfoldable pub row7or25 : ℕ → Option Refusal
  unfolding stray pinched upto first
  row7or25 n =
      elim (first (λ v. stray v || pinched v) (upto n)) [
        | none ↦ none
        | some v ↦ some (cond (stray v) (vertex_stray v) (vertex_pinched v))
      ]

  -- the triangles of `reached`, and those that a step across a side joins to them
  unfoldable pub expand : List ℕ → List ℕ
  unfolding filter elem any corners opp tri triangles
  expand reached = filter (λ t. elem t reached || any (λ d. elem (tri (opp d)) reached) (corners t)) triangles

  -- The piece of the outer triangle. As many rounds as there are triangles reach all of it (crate `theory_sphere`, `joined_rounds`).
  unfoldable pub component : List ℕ
  unfolding expand iterate
  component = iterate expand (length ts / 3) (0 ∷ [])

  -- several pieces: a triangle that the outer one does not reach
  unfoldable pub row8 : Bool
  unfolding component triangles any elem
  row8 = let reached = component in any (λ t. not (elem t reached)) triangles
