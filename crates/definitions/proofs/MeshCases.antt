-- Cases of our own for the shared functions on lists and for "Mesh and lent slices", computed of the definitions: lengths, darts, and the rows 3 to 6
-- of the table of refusals. What each expects is worked out from the paper by hand; the comments say how. Assumes nothing.
use Rattle.std.specs.Prelude.{ℕ, ◌≡◌, refl, List, [], ◌∷◌, map, leb, pos}
use Rattle.std.proofs.Math.Option.{none, some}
use Rattle.definitions.specs.Lists.{range, upto, first_or, first, minimum, init, total, total_abs}
use Rattle.definitions.specs.Answers.{refused, numbered}
use Rattle.definitions.specs.Mesh.{triangles_length, labels_length, weights_length, coordinates_length, scratch_length, points_length}
use Rattle.definitions.specs.Mesh.{corners, darts, triangles, inner, tip, opp, rotations, outgoing, component}
use Rattle.definitions.specs.Refusals.{check_call}
use Rattle.definitions.proofs.CheckedShells.{Every, all_held, ◌and◌, tetra, lent_scratch, cleared_scratch, minus}

-- ---- functions on lists

-- of 1, 5, 3 the first that is 2 or more is 5, and none is 6 or more
abbrev ListFunctions : Type 0
ListFunctions =
    (range 4 3 ≡ 4 ∷ 5 ∷ 6 ∷ [])
    × (upto 3 ≡ 0 ∷ 1 ∷ 2 ∷ [])
    × (first_or (leb 2) 7 (1 ∷ 5 ∷ 3 ∷ []) ≡ 5)
    × (first_or (leb 6) 7 (1 ∷ 5 ∷ 3 ∷ []) ≡ 7)
    × (first (leb 2) (1 ∷ 5 ∷ 3 ∷ []) ≡ some 5)
    × (first (leb 6) (1 ∷ 5 ∷ 3 ∷ []) ≡ none)
    × (minimum (5 ∷ 3 ∷ 4 ∷ []) ≡ some 3)
    × (init (5 ∷ 3 ∷ 4 ∷ []) ≡ 5 ∷ 3 ∷ [])
    × (total (pos 2 ∷ minus 5 ∷ pos 1 ∷ []) ≡ minus 2)
    × (total_abs (pos 2 ∷ minus 5 ∷ pos 1 ∷ []) ≡ 8)

list_functions : ListFunctions
unfolding range upto first_or first minimum init total total_abs
list_functions = (refl, refl, refl, refl, refl, refl, refl, refl, refl, refl)

-- ---- lengths

-- n = 100: 196 triangles, 195 of them inner
abbrev Lengths : Type 0
Lengths =
    map (λ length. length 100) (triangles_length ∷ labels_length ∷ weights_length ∷ coordinates_length ∷ scratch_length ∷ points_length ∷ [])
    ≡ 588 ∷ 585 ∷ 195 ∷ 300 ∷ 1000 ∷ 200 ∷ []

lengths : Lengths
lengths = refl

-- ---- darts of the tetra (0,2,1) (0,3,2) (3,1,2) (0,1,3)

abbrev Places : Type 0
Places =
    (corners 2 ≡ 6 ∷ 7 ∷ 8 ∷ [])
    × (darts tetra ≡ 0 ∷ 1 ∷ 2 ∷ 3 ∷ 4 ∷ 5 ∷ 6 ∷ 7 ∷ 8 ∷ 9 ∷ 10 ∷ 11 ∷ [])
    × (triangles tetra ≡ 0 ∷ 1 ∷ 2 ∷ 3 ∷ [])
    × (inner tetra ≡ 1 ∷ 2 ∷ 3 ∷ [])

places : Places
unfolding corners darts triangles inner
places = (refl, refl, refl, refl)

-- The sides are 0 to 2, 2 to 1, 1 to 0, 0 to 3, 3 to 2, 2 to 0, 3 to 1, 1 to 2, 2 to 3, 0 to 1, 1 to 3, 3 to 0.
abbrev Sides : Type 0
Sides =
    (map (tip tetra) (darts tetra) ≡ 2 ∷ 1 ∷ 0 ∷ 3 ∷ 2 ∷ 0 ∷ 1 ∷ 2 ∷ 3 ∷ 1 ∷ 3 ∷ 0 ∷ [])
    × (map (opp tetra) (darts tetra) ≡ 5 ∷ 7 ∷ 9 ∷ 11 ∷ 8 ∷ 0 ∷ 10 ∷ 1 ∷ 4 ∷ 2 ∷ 6 ∷ 3 ∷ [])

sides : Sides
unfolding darts tip opp
sides = (refl, refl)

-- Darts 4, 6 and 11 leave vertex 3. From (3,2,0) the side of 0 and 3 leads to (3,0,1), and that of 1 and 3 to (3,1,2).
abbrev Rotation : Type 0
Rotation = (outgoing tetra 3 ≡ 4 ∷ 6 ∷ 11 ∷ []) × (rotations tetra 3 4 ≡ 4 ∷ 11 ∷ 6 ∷ [])

rotation : Rotation
unfolding outgoing rotations
rotation = (refl, refl)

-- Two pieces of two triangles each, listed in turn; five triangles about vertex 0, each joined to the next, of which the last is four steps away; and
-- the tetra with the sides of its outer triangle listed first, second and third in the inner ones.
abbrev Pieces : Type 0
Pieces =
    (component (0 ∷ 2 ∷ 1 ∷ 3 ∷ 5 ∷ 4 ∷ 0 ∷ 1 ∷ 2 ∷ 3 ∷ 4 ∷ 5 ∷ []) ≡ 0 ∷ 2 ∷ [])
    × (component (0 ∷ 1 ∷ 2 ∷ 0 ∷ 2 ∷ 3 ∷ 0 ∷ 3 ∷ 4 ∷ 0 ∷ 4 ∷ 5 ∷ 0 ∷ 5 ∷ 6 ∷ []) ≡ 0 ∷ 1 ∷ 2 ∷ 3 ∷ 4 ∷ [])
    × (component (0 ∷ 2 ∷ 1 ∷ 2 ∷ 0 ∷ 3 ∷ 1 ∷ 2 ∷ 3 ∷ 0 ∷ 1 ∷ 3 ∷ []) ≡ 0 ∷ 1 ∷ 2 ∷ 3 ∷ [])
    × (component (0 ∷ 2 ∷ 1 ∷ 3 ∷ 2 ∷ 0 ∷ 3 ∷ 1 ∷ 2 ∷ 3 ∷ 0 ∷ 1 ∷ []) ≡ 0 ∷ 1 ∷ 2 ∷ 3 ∷ [])
    × (component (0 ∷ 2 ∷ 1 ∷ 0 ∷ 3 ∷ 2 ∷ 2 ∷ 3 ∷ 1 ∷ 1 ∷ 3 ∷ 0 ∷ []) ≡ 0 ∷ 1 ∷ 2 ∷ 3 ∷ [])

pieces : Pieces
unfolding component
pieces = (refl, refl, refl, refl, refl)

-- ---- rows 3 to 6

-- the mesh check of n and its triangles answers k
abbrev Refuses : ℕ → List ℕ → ℕ → Type 0
Refuses n ts k = check_call n 0 ts (lent_scratch n) ≡ record { answer = refused (numbered k); scratch = cleared_scratch n }

-- n + 1 in the last place, n in the first
abbrev VertexNumbers : Type 0
VertexNumbers = Refuses 3 (0 ∷ 2 ∷ 1 ∷ 0 ∷ 1 ∷ 4 ∷ []) 3 × Refuses 3 (3 ∷ 2 ∷ 1 ∷ 0 ∷ 1 ∷ 2 ∷ []) 3

vertex_numbers : VertexNumbers
unfolding check_call
vertex_numbers = (refl, refl)

-- a vertex twice, in each two of the three places
abbrev VertexTwice : Type 0
VertexTwice =
    Refuses 3 (0 ∷ 0 ∷ 1 ∷ 0 ∷ 1 ∷ 2 ∷ []) 4
    × Refuses 3 (0 ∷ 2 ∷ 1 ∷ 0 ∷ 1 ∷ 1 ∷ []) 4
    × Refuses 3 (0 ∷ 2 ∷ 1 ∷ 1 ∷ 0 ∷ 1 ∷ []) 4

vertex_twice : VertexTwice
unfolding check_call
vertex_twice = (refl, refl, refl)

-- a side twice in the first two triangles and a vertex twice in the third: 4 is asked before 5
abbrev FourBeforeFive : Type 0
FourBeforeFive = Refuses 4 (0 ∷ 2 ∷ 1 ∷ 0 ∷ 2 ∷ 1 ∷ 0 ∷ 0 ∷ 1 ∷ 1 ∷ 2 ∷ 3 ∷ []) 4

four_before_five : FourBeforeFive
unfolding check_call
four_before_five = refl

-- only one side is there twice: 3 to 2, the first of the first triangle and the last of the last
abbrev OneSideTwice : Type 0
OneSideTwice = Refuses 5 (3 ∷ 2 ∷ 0 ∷ 0 ∷ 2 ∷ 1 ∷ 3 ∷ 1 ∷ 2 ∷ 0 ∷ 1 ∷ 4 ∷ 1 ∷ 3 ∷ 4 ∷ 2 ∷ 4 ∷ 3 ∷ []) 5

one_side_twice : OneSideTwice
unfolding check_call
one_side_twice = refl

-- The same triangles with the two that have it last, and the table's example of 6 with the three last in which a side lacks its opposite, (0,1,2), (1,4,3)
-- and (2,5,3): no dart below the number of triangles finds it.
abbrev LateSides : Type 0
LateSides =
    Refuses 5 (0 ∷ 2 ∷ 1 ∷ 3 ∷ 1 ∷ 2 ∷ 0 ∷ 1 ∷ 4 ∷ 1 ∷ 3 ∷ 4 ∷ 3 ∷ 2 ∷ 0 ∷ 2 ∷ 4 ∷ 3 ∷ []) 5
    × Refuses 6 (0 ∷ 2 ∷ 3 ∷ 0 ∷ 3 ∷ 4 ∷ 0 ∷ 4 ∷ 5 ∷ 0 ∷ 5 ∷ 1 ∷ 1 ∷ 5 ∷ 4 ∷ 0 ∷ 1 ∷ 2 ∷ 1 ∷ 4 ∷ 3 ∷ 2 ∷ 5 ∷ 3 ∷ []) 6

late_sides : LateSides
unfolding check_call
late_sides = (refl, refl)

pub mesh-cases :
    Every
    (ListFunctions ∷ Lengths ∷ Places ∷ Sides ∷ Rotation ∷ Pieces ∷ VertexNumbers ∷ VertexTwice ∷ FourBeforeFive ∷ OneSideTwice ∷ LateSides ∷ [])
mesh-cases =
    list_functions and lengths and places and sides and rotation and pieces
    and vertex_numbers and vertex_twice and four_before_five and one_side_twice and late_sides and all_held
