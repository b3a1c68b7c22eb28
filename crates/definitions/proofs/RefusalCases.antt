-- Cases of our own for "Refusals and what stays", computed of the definitions: the limits of the rows, the order in which they are asked, the lengths of
-- lent slices, what a refused call leaves, and what is accepted. What each expects is worked out from the paper by hand; the comments say how. Assumes
-- nothing.
use Rattle.std.specs.Prelude.{ℕ, ◌+◌, ◌-◌, ◌^◌, ◌≡◌, refl, List, [], ◌∷◌, ◌++◌, map, replicate, ℤ, pos, Float}
use Rattle.std.proofs.Common.{true≢false, arith}
use Rattle.std.proofs.Math.Option.{some-ne-none}
use Rattle.std.specs.Float.Ieee.{of_bits}
use Rattle.std.specs.Float.{binary64}
use Rattle.definitions.specs.Answers.{done, refused, numbered, vertex_pinched, vertex_stray, stopped_after, share_outside, line_broken, number}
use Rattle.definitions.specs.Refusals.{check_call, labels_call, forward_call, backward_call, repair_call, snap_call}
use Rattle.definitions.specs.Refusals.{Accepted, AcceptedWeights, AcceptedCoordinates}
use Rattle.definitions.proofs.CheckedShells.{Every, all_held, ◌and◌, pair, tetra, five, stale, lent, lent_scratch, zeros, cleared_scratch, minus, tetra_at}
use Rattle.definitions.proofs.RefusalTable.{torus, L, no_number}

-- Lent slices for n = 3: 6 vertex numbers, 3 labels, 1 weight, 9 coordinates, 30 words of scratch, 6 shares. For n = 4: 12, 9, 3, 12, 40 and 8.

-- ---- a call that answers k, with scratch as `left` says and every other slice as lent

abbrev CheckRefuses : ℕ → List ℕ → List ℤ → ℕ → List ℤ → Type 0
CheckRefuses n ts scratch k left = check_call n 0 ts scratch ≡ record { answer = refused (numbered k); scratch = left }

abbrev LabelsRefuses : ℕ → List ℕ → List ℕ → List ℤ → ℕ → List ℤ → Type 0
LabelsRefuses n ts ls scratch k left = labels_call n 0 ts ls scratch ≡ record { answer = refused (numbered k); labels = ls; scratch = left }

abbrev ForwardRefuses : ℕ → List ℕ → List ℤ → List ℤ → List ℤ → ℕ → List ℤ → Type 0
ForwardRefuses n ts ws bs scratch k left =
    forward_call n 0 ts ws bs scratch ≡ record { answer = refused (numbered k); coordinates = bs; scratch = left }

abbrev BackwardRefuses : ℕ → List ℕ → List ℤ → List ℤ → List ℤ → ℕ → List ℤ → Type 0
BackwardRefuses n ts bs ws scratch k left =
    backward_call n 0 ts bs ws scratch ≡ record { answer = refused (numbered k); weights = ws; scratch = left }

abbrev RepairRefuses : ℕ → List ℕ → List ℤ → List ℤ → List ℤ → ℕ → List ℤ → Type 0
RepairRefuses n ts ws bs scratch k left =
    repair_call n 0 ts ws bs scratch ≡ record { answer = refused (numbered k); weights = ws; coordinates = bs; scratch = left }

abbrev SnapRefuses : ℕ → List Float → ℕ → List ℤ → ℕ → Type 0
SnapRefuses n shares r bs k = snap_call n shares r bs ≡ record { answer = refused (numbered k); coordinates = bs }

-- the share 0
abbrev zero_share : Float
zero_share = of_bits binary64 0

-- ---- 1 and 2

-- 4,097 vertices are too many. 4,096 are not, and then the empty slices are 2. Everywhere else 1 is asked before 2: no slice has its length.
abbrev Vertices : Type 0
Vertices =
    CheckRefuses 4097 [] [] 1 []
    × CheckRefuses 4096 [] [] 2 []
    × CheckRefuses 2 pair (lent 5) 1 (lent 5)
    × LabelsRefuses 2 pair (stale 1) (lent 5) 1 (lent 5)
    × ForwardRefuses 2 pair (lent 1) (lent 2) (lent 5) 1 (lent 5)
    × BackwardRefuses 2 pair (lent 2) (lent 1) (lent 5) 1 (lent 5)
    × RepairRefuses 2 pair (lent 1) (lent 2) (lent 5) 1 (lent 5)
    × SnapRefuses 4097 [] 4 (lent 1) 1
    × SnapRefuses 4096 [] 4 (lent 1) 2

vertices : Vertices
unfolding check_call labels_call forward_call backward_call repair_call snap_call
vertices = (refl, refl, refl, refl, refl, refl, refl, refl, refl)

-- k words of scratch are 2 in each call on a mesh, while the other slices have their lengths
abbrev OtherScratch : ℕ → Type 0
OtherScratch k =
    CheckRefuses 3 pair (lent k) 2 (lent k)
    × LabelsRefuses 3 pair (stale 3) (lent k) 2 (lent k)
    × ForwardRefuses 3 pair (lent 1) (lent 9) (lent k) 2 (lent k)
    × BackwardRefuses 3 pair (lent 9) (lent 1) (lent k) 2 (lent k)
    × RepairRefuses 3 pair (lent 1) (lent 9) (lent k) 2 (lent k)

-- 10n words, n = 3: one less, one more, and the 24n of before C-20
abbrev ScratchWords : Type 0
ScratchWords =
    OtherScratch 29
    × OtherScratch 31
    × OtherScratch 72
    × (check_call 3 0 pair (lent 30) ≡ record { answer = done tt; scratch = zeros 30 })

scratch_words : ScratchWords
unfolding check_call labels_call forward_call backward_call repair_call
scratch_words = (
  (refl, refl, refl, refl, refl),
  (refl, refl, refl, refl, refl),
  (refl, refl, refl, refl, refl),
  refl,
)

-- each other slice of each call, an item too short or too long, while the rest have their lengths
abbrev Lengths : Type 0
Lengths =
    CheckRefuses 3 (0 ∷ 2 ∷ 1 ∷ 0 ∷ 1 ∷ []) (lent_scratch 3) 2 (lent_scratch 3)
    × CheckRefuses 3 (pair ++ (0 ∷ [])) (lent_scratch 3) 2 (lent_scratch 3)
    × LabelsRefuses 3 pair (stale 2) (lent_scratch 3) 2 (lent_scratch 3)
    × LabelsRefuses 3 pair (stale 4) (lent_scratch 3) 2 (lent_scratch 3)
    × ForwardRefuses 3 pair (lent 2) (lent 9) (lent_scratch 3) 2 (lent_scratch 3)
    × ForwardRefuses 3 pair (lent 1) (lent 8) (lent_scratch 3) 2 (lent_scratch 3)
    × BackwardRefuses 3 pair (lent 10) (lent 1) (lent_scratch 3) 2 (lent_scratch 3)
    × BackwardRefuses 3 pair (lent 9) [] (lent_scratch 3) 2 (lent_scratch 3)
    × RepairRefuses 3 pair [] (lent 9) (lent_scratch 3) 2 (lent_scratch 3)
    × RepairRefuses 3 pair (lent 1) (lent 10) (lent_scratch 3) 2 (lent_scratch 3)
    × SnapRefuses 3 (replicate 5 zero_share) 4 (lent 9) 2
    × SnapRefuses 3 (replicate 7 zero_share) 4 (lent 9) 2
    × SnapRefuses 3 (replicate 6 zero_share) 4 (lent 8) 2
    × SnapRefuses 3 (replicate 6 zero_share) 4 (lent 10) 2

lengths : Lengths
unfolding check_call labels_call forward_call backward_call repair_call snap_call of_bits
lengths = (refl, refl, refl, refl, refl, refl, refl, refl, refl, refl, refl, refl, refl, refl)

-- ---- the order of the rows

-- Meshes in which two rows find something. A wrong length, and vertex 7: 2. A vertex twice in the first triangle, and vertex 3 of n = 3 in the second: 3.
-- A vertex twice in the second triangle, whose side from 0 to 1 the first has too: 4. (Document 01's examples of 5, 6 and 7 break the next row as well.)
abbrev MeshOrder : Type 0
MeshOrder =
    CheckRefuses 3 (0 ∷ 2 ∷ 7 ∷ []) (lent_scratch 3) 2 (lent_scratch 3)
    × CheckRefuses 3 (0 ∷ 0 ∷ 1 ∷ 0 ∷ 1 ∷ 3 ∷ []) (lent_scratch 3) 3 (cleared_scratch 3)
    × CheckRefuses 3 (0 ∷ 1 ∷ 2 ∷ 0 ∷ 0 ∷ 1 ∷ []) (lent_scratch 3) 4 (cleared_scratch 3)

mesh-order : MeshOrder
unfolding check_call
mesh-order = (refl, refl, refl)

-- one triangle twice
abbrev twice : List ℕ
twice = 0 ∷ 2 ∷ 1 ∷ 0 ∷ 2 ∷ 1 ∷ []

-- The mesh is looked at before weights and coordinates, which are past L but for the last case, whose weight would be raised: 5.
abbrev MeshFirst : Type 0
MeshFirst =
    LabelsRefuses 3 twice (stale 3) (lent_scratch 3) 5 (cleared_scratch 3)
    × ForwardRefuses 3 twice (pos (L + 1) ∷ []) (lent 9) (lent_scratch 3) 5 (cleared_scratch 3)
    × BackwardRefuses 3 twice (replicate 9 (pos (L + 1))) (lent 1) (lent_scratch 3) 5 (cleared_scratch 3)
    × RepairRefuses 3 twice (pos (L + 1) ∷ []) (lent 9) (lent_scratch 3) 5 (cleared_scratch 3)
    × RepairRefuses 3 twice (pos 0 ∷ []) (lent 9) (lent_scratch 3) 5 (cleared_scratch 3)

mesh-first : MeshFirst
unfolding labels_call forward_call backward_call repair_call
mesh-first = (refl, refl, refl, refl, refl)

-- coordinates of the tetra that backward refuses
abbrev Backs : List ℤ → ℕ → Type 0
Backs bs k = BackwardRefuses 4 tetra bs (lent 3) (lent_scratch 4) k (cleared_scratch 4)

abbrev at : ℤ → ℤ → ℤ → List ℤ
at x y z = x ∷ y ∷ z ∷ []

-- the outer vertices v0, v1 and v2, which are 0, 1 and 2, as given, and vertex 3 at (3, 5, 1)
abbrev OuterAt : List ℤ → List ℤ → List ℤ → ℕ → Type 0
OuterAt v0 v1 v2 k = Backs (v0 ++ v1 ++ v2 ++ at (pos 3) (pos 5) (pos 1)) k

-- their corners for N = 9
abbrev corner0 : List ℤ
corner0 = at (pos 9) (pos 0) (pos 0)

abbrev corner1 : List ℤ
corner1 = at (pos 0) (pos 9) (pos 0)

abbrev corner2 : List ℤ
corner2 = at (pos 0) (pos 0) (pos 9)

-- Coordinates that break 10, 11 and 12: 10. v0 at (9, 1, 0), off its corner and with the sum 10: 11. N = L and vertex 3 at (L, -L, 0): its sum is 0,
-- and the weights -L, L and L, from b1, b0 and N - b0 - b1, are past L: 12. With the sum L only the weights are wrong: 9.
abbrev BackwardOrder : Type 0
BackwardOrder =
    Backs (replicate 12 (pos (L + 1))) 10
    × OuterAt (at (pos 9) (pos 1) (pos 0)) corner1 corner2 11
    × Backs (tetra_at (pos L) (minus L) (pos L) (pos 0)) 12
    × Backs (tetra_at (pos L) (minus L) (pos L) (pos L)) 9

backward-order : BackwardOrder
unfolding backward_call
backward-order = (refl, refl, refl, refl)

-- snapping: 1 before 2, 2 before 14, 14 before 15
abbrev SnapOrder : Type 0
SnapOrder =
    SnapRefuses 2 [] 25 (lent 1) 1
    × SnapRefuses 3 (replicate 5 no_number) 25 (lent 9) 2
    × SnapRefuses 3 (replicate 6 no_number) 25 (lent 9) 14

snap-order : SnapOrder
unfolding snap_call of_bits
snap-order = (refl, refl, refl)

-- ---- 9 and 10

-- The absolute values are summed: -L alone, and L - 1 with -1, are L, which passes; L with -1 is past it. The least 64-bit number has no absolute value
-- among the 64-bit numbers. L - 3 with -9 is L + 6; repair refuses it too, though a raise of -9 to 1 would bring the sum below L.
abbrev WeightLimit : Type 0
WeightLimit =
    (forward_call 4 0 tetra (minus 1_073_741_823 ∷ pos 0 ∷ pos 0 ∷ []) (lent 12) (lent_scratch 4)
    ≡ record { answer = done tt; coordinates = tetra_at (minus L) (minus L) (pos 0) (pos 0); scratch = cleared_scratch 4 })
    × (forward_call 4 0 tetra (pos 1_073_741_822 ∷ pos 0 ∷ minus 1 ∷ []) (lent 12) (lent_scratch 4)
    ≡ record { answer = done tt; coordinates = tetra_at (pos 1_073_741_821) (pos 1_073_741_822) (pos 0) (minus 1); scratch = cleared_scratch 4 })
    × ForwardRefuses 4 tetra (pos 1_073_741_823 ∷ pos 0 ∷ minus 1 ∷ []) (lent 12) (lent_scratch 4) 9 (cleared_scratch 4)
    × ForwardRefuses 4 tetra (minus (2 ^ 63) ∷ pos 0 ∷ pos 0 ∷ []) (lent 12) (lent_scratch 4) 9 (cleared_scratch 4)
    × RepairRefuses 4 tetra (pos 1_073_741_820 ∷ minus 9 ∷ pos 0 ∷ []) (lent 12) (lent_scratch 4) 9 (cleared_scratch 4)

weight-limit : WeightLimit
unfolding forward_call repair_call
weight-limit = (refl, refl, refl, refl, refl)

-- L and -L pass: they are N and b1 of vertex 3, so the first weight. -L - 1 does not, at the first place and at the last.
abbrev CoordinateLimit : Type 0
CoordinateLimit =
    (backward_call 4 0 tetra (tetra_at (pos 1_073_741_823) (pos 1_073_741_823) (pos 0) (pos 0)) (lent 3) (lent_scratch 4)
    ≡ record { answer = done tt; weights = pos L ∷ pos 0 ∷ pos 0 ∷ []; scratch = cleared_scratch 4 })
    × (backward_call 4 0 tetra (tetra_at (minus 1_073_741_823) (minus 1_073_741_823) (pos 0) (pos 0)) (lent 3) (lent_scratch 4)
    ≡ record { answer = done tt; weights = minus L ∷ pos 0 ∷ pos 0 ∷ []; scratch = cleared_scratch 4 })
    × Backs (minus 1_073_741_824 ∷ zeros 11) 10
    × Backs (zeros 11 ++ (minus 1_073_741_824 ∷ [])) 10

coordinate-limit : CoordinateLimit
unfolding backward_call
coordinate-limit = (refl, refl, refl, refl)

-- ---- 11 and 12

-- Each coordinate of the outer vertices, off by one. (Another b0 of v0 would be another N.)
abbrev Corners : Type 0
Corners =
    OuterAt (at (pos 9) (minus 1) (pos 0)) corner1 corner2 11
    × OuterAt (at (pos 9) (pos 0) (pos 1)) corner1 corner2 11
    × OuterAt corner0 (at (minus 1) (pos 9) (pos 0)) corner2 11
    × OuterAt corner0 (at (pos 0) (pos 8) (pos 0)) corner2 11
    × OuterAt corner0 (at (pos 0) (pos 9) (pos 1)) corner2 11
    × OuterAt corner0 corner1 (at (pos 1) (pos 0) (pos 9)) 11
    × OuterAt corner0 corner1 (at (pos 0) (minus 1) (pos 9)) 11
    × OuterAt corner0 corner1 (at (pos 0) (pos 0) (pos 10)) 11

corners : Corners
unfolding backward_call
corners = (refl, refl, refl, refl, refl, refl, refl, refl)

-- The outer triangle (2, 1, 0) says that v0 is 2, v2 is 1 and v1 is 0. N = 5.
abbrev renumbered : List ℕ
renumbered = 2 ∷ 1 ∷ 0 ∷ 2 ∷ 0 ∷ 1 ∷ []

abbrev renumbered_corners : List ℤ
renumbered_corners = at (pos 0) (pos 5) (pos 0) ++ at (pos 0) (pos 0) (pos 5) ++ at (pos 5) (pos 0) (pos 0)

abbrev NamedCorners : Type 0
NamedCorners =
    (backward_call 3 0 renumbered renumbered_corners (lent 1) (lent_scratch 3)
    ≡ record { answer = done tt; weights = pos 5 ∷ []; scratch = cleared_scratch 3 })
    × BackwardRefuses 3 renumbered (at (pos 5) (pos 0) (pos 0) ++ at (pos 0) (pos 5) (pos 0) ++ at (pos 0) (pos 0) (pos 5)) (lent 1)
    (lent_scratch 3) 11 (cleared_scratch 3)

named_corners : NamedCorners
unfolding backward_call
named_corners = (refl, refl)

-- a sum below N, at the last vertex and at the one before it (P4 has vertex 3 at (1, 1, 3))
abbrev Sums : Type 0
Sums =
    Backs (tetra_at (pos 9) (pos 5) (pos 3) (pos 0)) 12
    × BackwardRefuses 5 five
    (at (pos 5) (pos 0) (pos 0) ++ at (pos 0) (pos 5) (pos 0) ++ at (pos 0) (pos 0) (pos 5) ++ at (pos 1) (pos 1) (pos 2) ++ at (pos 2) (pos 2) (pos 1))
    (lent 5) (lent_scratch 5) 12 (cleared_scratch 5)

sums : Sums
unfolding backward_call
sums = (refl, refl)

-- ---- what a refusal carries beside its number

abbrev Numbers : Type 0
Numbers =
    (number (numbered 8) ≡ 8)
    × (number (vertex_pinched 2) ≡ 7)
    × (number (vertex_stray 2) ≡ 25)
    × (number (stopped_after 2) ≡ 13)
    × (number (share_outside no_number) ≡ 16)
    × (number (line_broken 2) ≡ 17)

numbers : Numbers
unfolding of_bits
numbers = (refl, refl, refl, refl, refl, refl)

-- ---- what is accepted

-- The tetra is. No vertices and no triangles break 1 alone, the torus on 7 vertices, which has 14 triangles and not 10, 2 alone, and one triangle twice
-- breaks 5.
abbrev Meshes : Type 0
Meshes = Accepted 4 tetra × (¬ Accepted 0 []) × (¬ Accepted 7 (map (λ v. v - 4) torus)) × (¬ Accepted 3 twice)

meshes : Meshes
unfolding check_call
meshes = ((refl, refl, refl), λ a. true≢false a.0, λ a. omega (arith, a.1), λ a. some-ne-none (numbered 5) a.2)

-- Three weights of the tetra whose absolute values sum to L are. Two weights are not, and a sum of L + 1 is not.
abbrev Weights : Type 0
Weights =
    AcceptedWeights 4 (pos 1_073_741_822 ∷ pos 0 ∷ minus 1 ∷ [])
    × (¬ AcceptedWeights 4 (pos 5 ∷ pos 3 ∷ []))
    × (¬ AcceptedWeights 4 (pos 1_073_741_823 ∷ pos 0 ∷ minus 1 ∷ []))

weights : Weights
unfolding forward_call
weights = ((refl, refl), λ a. omega (arith, a.0), λ a. true≢false a.1)

abbrev AcceptedAt : List ℤ → Type 0
AcceptedAt bs = AcceptedCoordinates 4 tetra (0 ∷ 1 ∷ 2 ∷ 0 ∷ 1 ∷ 2 ∷ 0 ∷ 1 ∷ 2 ∷ []) bs

-- Those of the weights L, 0, 0 are, though they sum to 4L themselves, and the corners where v0 is vertex 2. Not those of P5 with a number after them;
-- not with b0 of vertex 3 at L + 1, which breaks 10 (and 9: the second weight is b0); not the examples of 11 and 12; and not N = L with vertex 3 at
-- (L, -L, L), which breaks 9 alone.
abbrev Coordinates : Type 0
Coordinates =
    AcceptedAt (tetra_at (pos L) (pos L) (pos 0) (pos 0))
    × AcceptedCoordinates 3 renumbered (0 ∷ 1 ∷ 2 ∷ []) renumbered_corners
    × (¬ AcceptedAt (tetra_at (pos 10) (pos 5) (pos 3) (pos 2) ++ (pos 0 ∷ [])))
    × (¬ AcceptedAt (tetra_at (pos L) (pos 0) (pos 1_073_741_824) (minus 1)))
    × (¬ AcceptedAt (corner0 ++ at (pos 1) (pos 8) (pos 0) ++ corner2 ++ at (pos 3) (pos 5) (pos 1)))
    × (¬ AcceptedAt (tetra_at (pos 9) (pos 5) (pos 3) (pos 2)))
    × (¬ AcceptedAt (tetra_at (pos L) (minus L) (pos L) (pos L)))

coordinates : Coordinates
unfolding backward_call
coordinates = (
  (refl, refl, refl, refl, refl),
  (refl, refl, refl, refl, refl),
  λ a. omega (arith, a.0),
  λ a. true≢false a.1,
  λ a. true≢false a.2,
  λ a. true≢false a.3,
  λ a. true≢false a.4,
)

pub refusal-cases :
    Every
    (Vertices ∷ ScratchWords ∷ Lengths ∷ MeshOrder ∷ MeshFirst ∷ BackwardOrder ∷ SnapOrder ∷ WeightLimit ∷ CoordinateLimit ∷ Corners
    ∷ NamedCorners ∷ Sums ∷ Numbers ∷ Meshes ∷ Weights ∷ Coordinates ∷ [])
refusal-cases =
    vertices and scratch_words and lengths and mesh-order and mesh-first and backward-order and snap-order and weight-limit and coordinate-limit
    and corners and named_corners and sums and numbers and meshes and weights and coordinates and all_held
