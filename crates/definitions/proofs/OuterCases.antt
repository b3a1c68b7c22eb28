-- Cases of our own for document 02's C-12, computed of the definitions: the mesh with its outer triangle in front, 21, and every call on a mesh whose outer
-- triangle is not the first. (That a text's outer triangle is the first is seen in `RefusalTable.example_job`.) What each expects is worked out from the
-- papers by hand; the comments say how. Assumes nothing.
use Rattle.std.specs.Prelude.{ℕ, ◌+◌, ◌-◌, ◌^◌, ◌≡◌, refl, true, false, List, [], ◌∷◌, ◌++◌, map, replicate, ℤ, pos}
use Rattle.definitions.specs.Answers.{Refusal, done, refused, numbered, vertex_pinched, vertex_stray}
use Rattle.definitions.specs.Mesh.{fronted}
use Rattle.definitions.specs.Labels.{outer}
use Rattle.definitions.specs.Refusals.{row21, check_call, labels_call, forward_call, backward_call, repair_call}
use Rattle.definitions.proofs.CheckedShells.{Every, all_held, ◌and◌, pair, tetra, five, stale, lent, lent_scratch, cleared_scratch, minus, tetra_at}
use Rattle.definitions.proofs.RefusalTable.{torus, bipyramids, side_without_opposite, L}

-- ---- the outer triangle in front

-- Triangles are told by their first digit, corners by their second. The outer triangle moves with its corners as listed; the others keep their order.
abbrev four_triangles : List ℕ
four_triangles = 10 ∷ 11 ∷ 12 ∷ 20 ∷ 21 ∷ 22 ∷ 30 ∷ 31 ∷ 32 ∷ 40 ∷ 41 ∷ 42 ∷ []

abbrev InFront : Type 0
InFront =
    (fronted 0 four_triangles ≡ four_triangles)
    × (fronted 1 four_triangles ≡ 20 ∷ 21 ∷ 22 ∷ 10 ∷ 11 ∷ 12 ∷ 30 ∷ 31 ∷ 32 ∷ 40 ∷ 41 ∷ 42 ∷ [])
    × (fronted 2 four_triangles ≡ 30 ∷ 31 ∷ 32 ∷ 10 ∷ 11 ∷ 12 ∷ 20 ∷ 21 ∷ 22 ∷ 40 ∷ 41 ∷ 42 ∷ [])
    × (fronted 3 four_triangles ≡ 40 ∷ 41 ∷ 42 ∷ 10 ∷ 11 ∷ 12 ∷ 20 ∷ 21 ∷ 22 ∷ 30 ∷ 31 ∷ 32 ∷ [])

in_front : InFront
unfolding fronted
in_front = (refl, refl, refl, refl)

-- v0, v1 and v2 of the tetra's triangles (0,2,1) (0,3,2) (3,1,2) (0,1,3), each of which is listed as v0, v2, v1
abbrev OuterVertices : Type 0
OuterVertices =
    map (λ place. map (outer (fronted place tetra)) (0 ∷ 1 ∷ 2 ∷ [])) (0 ∷ 1 ∷ 2 ∷ 3 ∷ [])
    ≡ (0 ∷ 1 ∷ 2 ∷ [])
    ∷ (0 ∷ 2 ∷ 3 ∷ [])
    ∷ (3 ∷ 2 ∷ 1 ∷ [])
    ∷ (0 ∷ 3 ∷ 1 ∷ [])
    ∷ []

outer_vertices : OuterVertices
unfolding fronted outer
outer_vertices = refl

-- ---- 21

-- the last triangle and the place after it: n = 3 has two triangles, n = 100 has 196, n = 4,096 has 8,188
abbrev LastPlace : Type 0
LastPlace =
    (map (row21 3) (0 ∷ 1 ∷ 2 ∷ 3 ∷ []) ≡ false ∷ false ∷ true ∷ true ∷ [])
    × (map (row21 100) (195 ∷ 196 ∷ []) ≡ false ∷ true ∷ [])
    × (map (row21 4096) (8187 ∷ 8188 ∷ []) ≡ false ∷ true ∷ [])

last-place : LastPlace
unfolding row21
last-place = (refl, refl, refl)

-- Every call on a mesh of n vertices answers k: scratch is then as `left` says, and every other slice as lent. The slices are those of n = 3, and weights
-- and coordinates are past L, so that 9 and 10 would find something too.
abbrev EachRefuses : ℕ → ℕ → List ℕ → List ℤ → ℕ → List ℤ → Type 0
EachRefuses n place ts scratch k left =
    let ws = pos (L + 1) ∷ [] in
    let bs = replicate 9 (pos (L + 1)) in
    (check_call n place ts scratch ≡ record { answer = refused (numbered k); scratch = left })
    × (labels_call n place ts (stale 3) scratch ≡ record { answer = refused (numbered k); labels = stale 3; scratch = left })
    × (forward_call n place ts ws (lent 9) scratch ≡ record { answer = refused (numbered k); coordinates = lent 9; scratch = left })
    × (backward_call n place ts bs (lent 1) scratch ≡ record { answer = refused (numbered k); weights = lent 1; scratch = left })
    × (repair_call n place ts ws (lent 9) scratch ≡ record { answer = refused (numbered k); weights = ws; coordinates = lent 9; scratch = left })

-- 2n - 4, and the largest number that a call can be given
abbrev NoSuchTriangle : Type 0
NoSuchTriangle = EachRefuses 3 2 pair (lent_scratch 3) 21 (cleared_scratch 3) × EachRefuses 3 (2 ^ 64 - 1) pair (lent_scratch 3) 21 (cleared_scratch 3)

no_such_triangle : NoSuchTriangle
unfolding check_call labels_call forward_call backward_call repair_call
no_such_triangle = ((refl, refl, refl, refl, refl), (refl, refl, refl, refl, refl))

-- 1 and 2 are asked before 21, and leave scratch as lent: n = 2 has no triangle, and n = 3 none at place 2; for 2 a word of scratch is missing. 21 is asked
-- before 3: vertex 3 of n = 3.
abbrev OrderOf21 : Type 0
OrderOf21 =
    EachRefuses 2 2 pair (lent_scratch 3) 1 (lent_scratch 3)
    × EachRefuses 3 2 pair (lent 29) 2 (lent 29)
    × EachRefuses 3 2 (0 ∷ 2 ∷ 1 ∷ 0 ∷ 1 ∷ 3 ∷ []) (lent_scratch 3) 21 (cleared_scratch 3)

order_of_21 : OrderOf21
unfolding check_call labels_call forward_call backward_call repair_call
order_of_21 = ((refl, refl, refl, refl, refl), (refl, refl, refl, refl, refl), (refl, refl, refl, refl, refl))

-- ---- the mesh's own rows, wherever the outer triangle is

-- the mesh check with this outer triangle
abbrev Refuses : ℕ → ℕ → List ℕ → Refusal → Type 0
Refuses n place ts why = check_call n place ts (lent_scratch n) ≡ record { answer = refused why; scratch = cleared_scratch n }

-- that of 8 with n = 3 for its tetra
abbrev pub pair_and_torus : List ℕ
pair_and_torus = pair ++ map (λ v. v - 1) torus

-- The table's examples: the refusal is the same with the outer triangle at another place, and 21 at the place 2n - 4.
abbrev Same : ℕ → ℕ → ℕ → List ℕ → Refusal → Type 0
Same n place beyond ts why = Refuses n place ts why × Refuses n beyond ts (numbered 21)

-- Of the 2 triangles of n = 3, the 8 of n = 6, the 12 of n = 8 and the 14 of n = 9 the last is the outer one. Of the 16 of n = 10 it is the third, in the
-- torus, which does not reach the first two.
abbrev OtherPlace : Type 0
OtherPlace =
    Same 3 1 2 (0 ∷ 2 ∷ 1 ∷ 0 ∷ 1 ∷ 3 ∷ []) (numbered 3)
    × Same 3 1 2 (0 ∷ 2 ∷ 1 ∷ 0 ∷ 0 ∷ 1 ∷ []) (numbered 4)
    × Same 3 1 2 (0 ∷ 2 ∷ 1 ∷ 0 ∷ 2 ∷ 1 ∷ []) (numbered 5)
    × Same 6 7 8 side_without_opposite (numbered 6)
    × Same 8 11 12 bipyramids (vertex_pinched 3)
    × Same 9 13 14 (map (λ v. v - 4) torus) (vertex_stray 7)
    × Same 10 2 16 pair_and_torus (numbered 8)

other_place : OtherPlace
unfolding check_call
other_place = ((refl, refl), (refl, refl), (refl, refl), (refl, refl), (refl, refl), (refl, refl), (refl, refl))

-- ---- coordinates, vertex by vertex

abbrev pub at : ℤ → ℤ → ℤ → List ℤ
at x y z = x ∷ y ∷ z ∷ []

-- those of v0, v1 and v2
abbrev corner0 : ℕ → List ℤ
corner0 N = at (pos N) (pos 0) (pos 0)

abbrev corner1 : ℕ → List ℤ
corner1 N = at (pos 0) (pos N) (pos 0)

abbrev corner2 : ℕ → List ℤ
corner2 N = at (pos 0) (pos 0) (pos N)

-- ---- n = 3, (0,2,1) (0,1,2): outer place 1

-- v0 = 0, v2 = 1 and v1 = 2. The inner triangle (0,2,1) has its corners at v0, v1, v2: the labels 0, 1, 2. Its weight is N. With weight 0 it is flat, and
-- m is 0: it is raised by 1.
abbrev pub pair_at : ℕ → List ℤ
pair_at N = corner0 N ++ corner2 N ++ corner1 N

abbrev PairCalls : Type 0
PairCalls =
    (check_call 3 1 pair (lent_scratch 3) ≡ record { answer = done tt; scratch = cleared_scratch 3 })
    × (labels_call 3 1 pair (stale 3) (lent_scratch 3) ≡ record { answer = done tt; labels = 0 ∷ 1 ∷ 2 ∷ []; scratch = cleared_scratch 3 })
    × (forward_call 3 1 pair (pos 5 ∷ []) (lent 9) (lent_scratch 3) ≡ record { answer = done tt; coordinates = pair_at 5; scratch = cleared_scratch 3 })
    × (backward_call 3 1 pair (pair_at 5) (lent 1) (lent_scratch 3) ≡ record { answer = done tt; weights = pos 5 ∷ []; scratch = cleared_scratch 3 })
    × (repair_call 3 1 pair (pos 0 ∷ []) (lent 9) (lent_scratch 3)
    ≡ record { answer = done 1; weights = pos 1 ∷ []; coordinates = pair_at 1; scratch = cleared_scratch 3 })

pair_calls : PairCalls
unfolding check_call labels_call forward_call backward_call repair_call
pair_calls = (refl, refl, refl, refl, refl)

-- ---- the tetra (0,2,1) (0,3,2) (3,1,2) (0,1,3): outer places 1, 2 and 3

-- Place 1: v0 = 0, v2 = 3, v1 = 2, and the inner triangles are (0,2,1), (3,1,2), (0,1,3). 3 leaves with 0, 1, 2, so (3,0,1) and (3,1,2) have 2 at 3; then 1
-- with 0, 2, so (1,0,2) has 2 at 1.
-- Place 2: v0 = 3, v2 = 1, v1 = 2, and the inner triangles are (0,2,1), (0,3,2), (0,1,3). 1 leaves with 3, 0, 2, so (1,3,0) and (1,0,2) have 2 at 1; then 0
-- with 3, 2, so (0,3,2) has 2 at 0.
-- Place 3: v0 = 0, v2 = 1, v1 = 3, and the inner triangles are (0,2,1), (0,3,2), (3,1,2). 1 leaves with 0, 2, 3, so (1,0,2) and (1,2,3) have 2 at 1; then 2
-- with 0, 3, so (2,0,3) has 2 at 2.
abbrev TetraLabelled : ℕ → List ℕ → Type 0
TetraLabelled place ls =
    labels_call 4 place tetra (stale 9) (lent_scratch 4) ≡ record { answer = done tt; labels = ls; scratch = cleared_scratch 4 }

abbrev TetraLabels : Type 0
TetraLabels =
    TetraLabelled 1 (0 ∷ 1 ∷ 2 ∷ 2 ∷ 0 ∷ 1 ∷ 0 ∷ 1 ∷ 2 ∷ [])
    × TetraLabelled 2 (0 ∷ 1 ∷ 2 ∷ 2 ∷ 0 ∷ 1 ∷ 1 ∷ 2 ∷ 0 ∷ [])
    × TetraLabelled 3 (0 ∷ 1 ∷ 2 ∷ 0 ∷ 1 ∷ 2 ∷ 1 ∷ 2 ∷ 0 ∷ [])

tetra-labels : TetraLabels
unfolding labels_call
tetra-labels = (refl, refl, refl)

-- By the tetra's symmetry coordinate c of its inner vertex is the weight of the inner triangle that v_c is not in: in P5 vertex 3 is at (3, 5, 2), and its b0
-- is the weight of (3,1,2), where v0 = 0 is not. The weights are 5, 3, 2, and N = 10.
-- Place 1: v0 = 0 is not in (3,1,2), v1 = 2 not in (0,1,3), v2 = 3 not in (0,2,1), so vertex 1 is at (3, 2, 5).
-- Place 2: v0 = 3 is not in (0,2,1), v1 = 2 not in (0,1,3), v2 = 1 not in (0,3,2), so vertex 0 is at (5, 2, 3).
-- Place 3: v0 = 0 is not in (3,1,2), v1 = 3 not in (0,2,1), v2 = 1 not in (0,3,2), so vertex 2 is at (2, 5, 3).
abbrev tetra_at1 : ℕ → List ℤ → List ℤ
tetra_at1 N vertex1 = corner0 N ++ vertex1 ++ corner1 N ++ corner2 N

abbrev pub tetra_at2 : ℕ → List ℤ → List ℤ
tetra_at2 N vertex0 = vertex0 ++ corner2 N ++ corner1 N ++ corner0 N

abbrev tetra_at3 : ℕ → List ℤ → List ℤ
tetra_at3 N vertex2 = corner0 N ++ corner2 N ++ vertex2 ++ corner1 N

abbrev TetraMapped : ℕ → List ℤ → Type 0
TetraMapped place bs =
    let ws = pos 5 ∷ pos 3 ∷ pos 2 ∷ [] in
    (forward_call 4 place tetra ws (lent 12) (lent_scratch 4) ≡ record { answer = done tt; coordinates = bs; scratch = cleared_scratch 4 })
    × (backward_call 4 place tetra bs (lent 3) (lent_scratch 4) ≡ record { answer = done tt; weights = ws; scratch = cleared_scratch 4 })

abbrev TetraMaps : Type 0
TetraMaps =
    TetraMapped 1 (tetra_at1 10 (at (pos 3) (pos 2) (pos 5)))
    × TetraMapped 2 (tetra_at2 10 (at (pos 5) (pos 2) (pos 3)))
    × TetraMapped 3 (tetra_at3 10 (at (pos 2) (pos 5) (pos 3)))

tetra_maps : TetraMaps
unfolding forward_call backward_call
tetra_maps = ((refl, refl), (refl, refl), (refl, refl))

-- C-21 at place 2: P8's weights. Triangle 1, the first to be raised, is (0,2,1), the mesh's first. By the tetra's symmetry the m of an inner triangle is the
-- larger of 0 less its weight, and the largest of 0 and the others' weights, less N: as in P8 the raises are by 4, 3 and 2, and the weights become 3, 2, 1.
abbrev TetraRepair : Type 0
TetraRepair =
    repair_call 4 2 tetra (replicate 3 (minus 1)) (lent 12) (lent_scratch 4)
    ≡ record {
      answer = done 3;
      weights = pos 3 ∷ pos 2 ∷ pos 1 ∷ [];
      coordinates = tetra_at2 6 (at (pos 3) (pos 1) (pos 2));
      scratch = cleared_scratch 4;
    }

tetra-repair : TetraRepair
unfolding repair_call
tetra-repair = refl

abbrev Backs : ℕ → List ℤ → ℕ → Type 0
Backs place bs k =
    backward_call 4 place tetra bs (lent 3) (lent_scratch 4) ≡ record { answer = refused (numbered k); weights = lent 3; scratch = cleared_scratch 4 }

-- 11: coordinates that are accepted at the outer place before. 12: N = 9, the inner vertex at (3, 5, 2). 9: N = L, the inner vertex at (L, -L, L), so that
-- the weights are L, L and -L.
abbrev TetraRows : Type 0
TetraRows =
    Backs 1 (tetra_at (pos 10) (pos 5) (pos 3) (pos 2)) 11
    × Backs 2 (tetra_at1 10 (at (pos 3) (pos 2) (pos 5))) 11
    × Backs 3 (tetra_at2 10 (at (pos 5) (pos 2) (pos 3))) 11
    × Backs 2 (tetra_at2 9 (at (pos 3) (pos 5) (pos 2))) 12
    × Backs 2 (tetra_at2 L (at (pos L) (minus L) (pos L))) 9

tetra-rows : TetraRows
unfolding backward_call
tetra-rows = (refl, refl, refl, refl, refl)

-- ---- n = 5, (0,2,1) (0,3,2) (3,1,2) (0,1,4) (1,3,4) (3,0,4): outer place 3

-- v0 = 0, v2 = 1 and v1 = 4; the inner triangles are (0,2,1), (0,3,2), (3,1,2), (1,3,4), (3,0,4). 1 leaves with 0, 2, 3, 4, so (1,0,2), (1,2,3) and (1,3,4)
-- have 2 at 1. 3 has a chord to 0, so 2 leaves, with 0, 3: (2,0,3) has 2 at 2. Then 3 leaves with 0, 4: (3,0,4) has 2 at 3.
abbrev FiveLabels : Type 0
FiveLabels =
    labels_call 5 3 five (stale 15) (lent_scratch 5)
    ≡ record {
      answer = done tt;
      labels = 0 ∷ 1 ∷ 2 ∷ 0 ∷ 1 ∷ 2 ∷ 1 ∷ 2 ∷ 0 ∷ 2 ∷ 0 ∷ 1 ∷ 2 ∷ 0 ∷ 1 ∷ [];
      scratch = cleared_scratch 5;
    }

five-labels : FiveLabels
unfolding labels_call
five-labels = refl

-- Each weight is a power of 2, so a sum tells which triangles it is of; N = 31. The sides that the walks cross: 0-2 triangle 1; 2-3 triangle 3; 0-3 triangles
-- 1, 2, 3; 3-4 triangle 4; 0-4 all. Vertex 2 goes to v0 by 0-2 and to v1 by 2-3 and 3-4: b1 is 1 and b0 is 4 + 8. Vertex 3 goes to v0 by 0-3 and to v1
-- by 3-4: b1 is 1 + 2 + 4 and b0 is 8. Back: the s of these sides are 1, 4, 7, 8 and 31, and every other s is 0, so the weights are 1, 7 - 4 - 1, 4, 8 and
-- 31 - 7 - 8.
abbrev five_at : ℕ → List ℤ → List ℤ → List ℤ
five_at N vertex2 vertex3 = corner0 N ++ corner2 N ++ vertex2 ++ vertex3 ++ corner1 N

abbrev FiveMaps : Type 0
FiveMaps =
    let ws = pos 1 ∷ pos 2 ∷ pos 4 ∷ pos 8 ∷ pos 16 ∷ [] in
    let bs = five_at 31 (at (pos 12) (pos 1) (pos 18)) (at (pos 8) (pos 7) (pos 16)) in
    (forward_call 5 3 five ws (lent 15) (lent_scratch 5) ≡ record { answer = done tt; coordinates = bs; scratch = cleared_scratch 5 })
    × (backward_call 5 3 five bs (lent 5) (lent_scratch 5) ≡ record { answer = done tt; weights = ws; scratch = cleared_scratch 5 })

five_maps : FiveMaps
unfolding forward_call backward_call
five_maps = (refl, refl)

-- Weights a to e put vertex 2 at (c + d, a, b + e) and vertex 3 at (d, a + b + c, e). For 2, 1, -2, 3, 4, N = 8, these are (1, 2, 5) and (3, 1, 4). Triangle 1
-- has area number aN = 16. Triangle 2, with p, q, r at 0, 3, 2, has (3 - 8) 2 - 1 (1 - 8) = -3 and is raised, though its weight is above 0: b1 gives
-- m = 2 - 1, so 1 becomes 3. N = 10, vertex 2 is at (1, 2, 7) and 3 at (3, 3, 4). Now triangle 2 has (3 - 10) 2 - 3 (1 - 10) = 13; triangle 3, with p, q, r
-- at 2, 3, 1, has (3 - 1) (0 - 2) - (3 - 2) (0 - 1) = -3, and b0 gives m = 3 - 1, so -2 becomes 1. All weights are above 0: no triangle is bad.
abbrev FiveRepair : Type 0
FiveRepair =
    repair_call 5 3 five (pos 2 ∷ pos 1 ∷ minus 2 ∷ pos 3 ∷ pos 4 ∷ []) (lent 15) (lent_scratch 5)
    ≡ record {
      answer = done 2;
      weights = pos 2 ∷ pos 3 ∷ pos 1 ∷ pos 3 ∷ pos 4 ∷ [];
      coordinates = five_at 13 (at (pos 4) (pos 2) (pos 7)) (at (pos 3) (pos 6) (pos 4));
      scratch = cleared_scratch 5;
    }

five-repair : FiveRepair
unfolding repair_call
five-repair = refl

pub outer-cases :
    Every
    (InFront ∷ OuterVertices ∷ LastPlace ∷ NoSuchTriangle ∷ OrderOf21 ∷ OtherPlace ∷ PairCalls ∷ TetraLabels ∷ TetraMaps ∷ TetraRepair ∷ TetraRows
    ∷ FiveLabels ∷ FiveMaps ∷ FiveRepair ∷ [])
outer-cases =
    in_front and outer_vertices and last-place and no_such_triangle and order_of_21 and other_place and pair_calls and tetra-labels and tetra_maps
    and tetra-repair and tetra-rows and five-labels and five_maps and five-repair and all_held
