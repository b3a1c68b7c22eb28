-- Cases of our own for 7 and 25, which a vertex decides (C-15), computed of the definitions: which of the two it is, and the vertex that is carried. What
-- each expects is worked out from the paper by hand; the comments say how. Assumes nothing.
use Rattle.std.specs.Prelude.{ℕ, ◌+◌, ◌-◌, ◌≡◌, refl, false, List, [], ◌∷◌, ◌++◌, map, replicate, pos}
use Rattle.definitions.specs.Answers.{Refusal, refused, vertex_pinched, vertex_stray}
use Rattle.definitions.specs.Mesh.{labels_length, weights_length, coordinates_length, ring, stray, pinched}
use Rattle.definitions.specs.Lists.{upto, filter}
use Rattle.definitions.specs.Refusals.{check_call, labels_call, forward_call, backward_call, repair_call}
use Rattle.definitions.proofs.CheckedShells.{Every, all_held, ◌and◌, tetra, stale, lent_scratch, cleared_scratch}
use Rattle.definitions.proofs.RefusalTable.{torus, L}

-- the mesh check of n and its triangles is refused, and scratch holds zeros
abbrev Refuses : ℕ → List ℕ → Refusal → Type 0
Refuses n ts why = check_call n 0 ts (lent_scratch n) ≡ record { answer = refused why; scratch = cleared_scratch n }

-- ---- one kind alone

-- the torus on the vertices 1 to 7; it has the 14 triangles of n = 9, and no triangle touches 0 and 8. (`RefusalTable.Row25` has it on 0 to 6.)
abbrev Strays : Type 0
Strays = Refuses 9 (map (λ v. v - 3) torus) (vertex_stray 0)

strays : Strays
unfolding check_call
strays = refl

-- A sphere that has v at both ends, so that v has two rings: a, b, c and d, e, f. It has the 12 triangles of n = 8, and touches seven vertices.
abbrev two_rings : ℕ → ℕ → ℕ → ℕ → ℕ → ℕ → ℕ → List ℕ
two_rings v a b c d e f =
    v ∷ a ∷ b ∷ v ∷ b ∷ c ∷ v ∷ c ∷ a
    ∷ b ∷ a ∷ d ∷ c ∷ b ∷ e ∷ a ∷ c ∷ f
    ∷ b ∷ d ∷ e ∷ c ∷ e ∷ f ∷ a ∷ f ∷ d
    ∷ v ∷ e ∷ d ∷ v ∷ f ∷ e ∷ v ∷ d ∷ f
    ∷ []

-- the two triangles over a, b, c: a sphere too
abbrev both_ways : ℕ → ℕ → ℕ → List ℕ
both_ways a b c = a ∷ b ∷ c ∷ a ∷ c ∷ b ∷ []

-- Only 8, the last vertex, has not one ring. It has three: those of the sphere with 8 at both ends, and 6, 7. 12 + 2 triangles are those of n = 9.
abbrev Pinched : Type 0
Pinched = Refuses 9 (two_rings 8 0 1 2 3 4 5 ++ both_ways 8 6 7) (vertex_pinched 8)

three_rings : Pinched
unfolding check_call
three_rings = refl

-- ---- both kinds

-- one of each: 3 is stray and 5 is pinched, and the other way about
abbrev pub stray_below : List ℕ
stray_below = two_rings 5 0 1 2 4 6 7

abbrev StrayBelowPinched : Type 0
StrayBelowPinched = Refuses 8 stray_below (vertex_stray 3)

stray-below : StrayBelowPinched
unfolding check_call
stray-below = refl

abbrev StrayAbovePinched : Type 0
StrayAbovePinched = Refuses 8 (two_rings 3 0 1 2 4 6 7) (vertex_pinched 3)

stray-above : StrayAbovePinched
unfolding check_call
stray-above = refl

-- Seven spheres of two triangles, (i, i + 1, i + 3) modulo 7, plus `lowest`. They share no side, and each of their seven vertices is in three of them. Their
-- 14 triangles are those of n = 9, where two vertices are left over. The lowest is not the first that is listed.
abbrev seven_pinched : ℕ → List ℕ
seven_pinched lowest =
    map (λ v. v + lowest)
    (both_ways 3 4 6 ++ both_ways 4 5 0 ++ both_ways 5 6 1 ++ both_ways 6 0 2 ++ both_ways 0 1 3 ++ both_ways 1 2 4 ++ both_ways 2 3 5)

-- the stray ones 7 and 8 above the pinched ones; 0 and 1 below them; 0 below and 8 above
abbrev SeveralOfEach : Type 0
SeveralOfEach =
    Refuses 9 (seven_pinched 0) (vertex_pinched 0) × Refuses 9 (seven_pinched 2) (vertex_stray 0) × Refuses 9 (seven_pinched 1) (vertex_stray 0)

several : SeveralOfEach
unfolding check_call
several = (refl, refl, refl)

-- which vertices are stray and which are pinched: no vertex is both, and none of the tetra is either; no triangles are no ring
abbrev EachVertex : Type 0
EachVertex =
    (filter (stray (seven_pinched 1)) (upto 9) ≡ 0 ∷ 8 ∷ [])
    × (filter (pinched (seven_pinched 1)) (upto 9) ≡ 1 ∷ 2 ∷ 3 ∷ 4 ∷ 5 ∷ 6 ∷ 7 ∷ [])
    × (filter (stray tetra) (upto 4) ≡ [])
    × (filter (pinched tetra) (upto 4) ≡ [])
    × (ring tetra [] ≡ false)

each_vertex : EachVertex
unfolding ring stray pinched filter upto
each_vertex = (refl, refl, refl, refl, refl)

-- ---- every call on a mesh

-- Weights past L and coordinates beyond -L..L come after it.
abbrev EachCall : ℕ → List ℕ → Refusal → Type 0
EachCall n ts why =
    let ws = replicate (weights_length n) (pos (L + 1)) in
    let bs = replicate (coordinates_length n) (pos (L + 1)) in
    let ls = stale (labels_length n) in
    let scratch = cleared_scratch n in
    (labels_call n 0 ts ls (lent_scratch n) ≡ record { answer = refused why; labels = ls; scratch = scratch })
    × (forward_call n 0 ts ws bs (lent_scratch n) ≡ record { answer = refused why; coordinates = bs; scratch = scratch })
    × (backward_call n 0 ts bs ws (lent_scratch n) ≡ record { answer = refused why; weights = ws; scratch = scratch })
    × (repair_call n 0 ts ws bs (lent_scratch n) ≡ record { answer = refused why; weights = ws; coordinates = bs; scratch = scratch })

abbrev EachStray : Type 0
EachStray = EachCall 8 stray_below (vertex_stray 3)

each_stray : EachStray
unfolding labels_call forward_call backward_call repair_call
each_stray = (refl, refl, refl, refl)

-- Four spheres of two triangles. They share no side, and each vertex is in two of them. Their 8 triangles are those of n = 6.
abbrev pub four_spheres : List ℕ
four_spheres = both_ways 4 2 5 ++ both_ways 1 3 5 ++ both_ways 0 3 4 ++ both_ways 0 1 2

abbrev EachPinched : Type 0
EachPinched = EachCall 6 four_spheres (vertex_pinched 0)

each_pinched : EachPinched
unfolding labels_call forward_call backward_call repair_call
each_pinched = (refl, refl, refl, refl)

pub vertex-cases :
    Every (Strays ∷ Pinched ∷ StrayBelowPinched ∷ StrayAbovePinched ∷ SeveralOfEach ∷ EachVertex ∷ EachStray ∷ EachPinched ∷ [])
vertex-cases =
    strays and three_rings and stray-below and stray-above and several and each_vertex and each_stray and each_pinched and all_held
