-- Cases of our own for document 02's C-18, computed of the definitions: 29, the range call, the rows that refuse it and their order, and what stays. What each
-- expects is worked out from the papers by hand; the comments say how. Assumes nothing.
use Rattle.std.specs.Prelude.{ℕ, zero, suc, ◌+◌, ◌-◌, ◌^◌, ◌≤◌, ◌≡◌, refl, Bool, true, false, List, [], ◌∷◌, ◌++◌, map, T, replicate, ℤ, pos, ◌≤ℤ◌}
use Rattle.std.proofs.Common.{true≢false, arith}
use Rattle.std.specs.Int.Signed.{le_z, le_z_yes}
use Rattle.definitions.specs.Answers.{Refusal, done, refused, numbered, vertex_pinched, vertex_stray}
use Rattle.definitions.specs.Mesh.{weights_length, coordinates_length}
use Rattle.definitions.specs.Forward.{weight}
use Rattle.definitions.specs.Refusals.{row29, range_call, AcceptedRanges, Within}
use Rattle.definitions.proofs.CheckedShells.{Every, all_held, ◌and◌, pair, tetra, lent, lent_scratch, cleared_scratch, minus, tetra_at}
use Rattle.definitions.proofs.RefusalTable.{side_without_opposite, L}
use Rattle.definitions.proofs.VertexCases.{stray_below, four_spheres}
use Rattle.definitions.proofs.OuterCases.{pair_and_torus, at, pair_at, tetra_at2}

-- ---- 29

-- The highs are 5, -3, 0. The same lows, and smaller ones, pass; then the first low, the second and the third is above its high.
abbrev LowAboveHigh : Type 0
LowAboveHigh =
    map (λ lows. row29 lows (pos 5 ∷ minus 3 ∷ pos 0 ∷ []))
    ((pos 5 ∷ minus 3 ∷ pos 0 ∷ [])
    ∷ (pos 4 ∷ minus 9 ∷ minus 1 ∷ [])
    ∷ (pos 6 ∷ minus 3 ∷ pos 0 ∷ [])
    ∷ (pos 4 ∷ minus 2 ∷ minus 1 ∷ [])
    ∷ (pos 5 ∷ minus 9 ∷ pos 1 ∷ [])
    ∷ [])
    ≡ false ∷ false ∷ true ∷ true ∷ true ∷ []

low_above-high : LowAboveHigh
unfolding row29
low_above-high = refl

-- one triangle
abbrev above : ℤ → ℤ → Bool
above low high = row29 (low ∷ []) (high ∷ [])

-- the least and the greatest 64-bit number
abbrev least : ℤ
least = minus (2 ^ 63)

abbrev greatest : ℤ
greatest = pos (2 ^ 63 - 1)

-- below 0, at 0, and at both ends of the 64-bit numbers
abbrev Signs : Type 0
Signs =
    (map (above (minus 3)) (minus 4 ∷ minus 3 ∷ minus 2 ∷ pos 0 ∷ pos 3 ∷ []) ≡ true ∷ false ∷ false ∷ false ∷ false ∷ [])
    × (map (above (pos 0)) (minus 1 ∷ pos 0 ∷ pos 1 ∷ []) ≡ true ∷ false ∷ false ∷ [])
    × (map (above least) (least ∷ greatest ∷ []) ≡ false ∷ false ∷ [])
    × (map (above greatest) (least ∷ greatest ∷ []) ≡ true ∷ false ∷ [])

signs : Signs
unfolding row29
signs = (refl, refl, refl, refl)

-- ---- the two coordinate lists

-- lent for the high ones; for the low ones `lent`
abbrev lent_high : ℕ → List ℤ
lent_high k = replicate k (pos 8)

-- a call that writes both lists
abbrev Ranges : ℕ → ℕ → List ℕ → List ℤ → List ℤ → List ℤ → List ℤ → Type 0
Ranges n place ts lows highs low_bs high_bs =
    range_call n place ts lows highs (lent (coordinates_length n)) (lent_high (coordinates_length n)) (lent_scratch n)
    ≡ record { answer = done tt; low_coordinates = low_bs; high_coordinates = high_bs; scratch = cleared_scratch n }

-- n = 3, (0,2,1) (0,1,2), at the outer place 0: v0, v1 and v2 are 0, 1 and 2. The weight is N.
abbrev pair_at0 : ℤ → List ℤ
pair_at0 N = at N (pos 0) (pos 0) ++ at (pos 0) N (pos 0) ++ at (pos 0) (pos 0) N

-- At the place 1 the low is the high (`OuterCases.PairCalls` has the corners).
abbrev PairRanges : Type 0
PairRanges =
    Ranges 3 0 pair (minus 2 ∷ []) (pos 5 ∷ []) (pair_at0 (minus 2)) (pair_at0 (pos 5))
    × Ranges 3 1 pair (pos 5 ∷ []) (pos 5 ∷ []) (pair_at 5) (pair_at 5)

pair_ranges : PairRanges
unfolding range_call
pair_ranges = (refl, refl)

-- The tetra's weights a, b, c put its inner vertex at (b, a, c), and at the outer place 2 at (a, c, b) (`OuterCases.TetraMaps`). The lists differ in all three
-- triangles; and in the third alone, N = 6 and 10.
abbrev TetraRanges : Type 0
TetraRanges =
    Ranges 4 0 tetra (minus 1 ∷ minus 3 ∷ pos 2 ∷ []) (pos 5 ∷ pos 0 ∷ pos 4 ∷ []) (tetra_at (minus 2) (minus 1) (minus 3) (pos 2))
    (tetra_at (pos 9) (pos 5) (pos 0) (pos 4))
    × Ranges 4 2 tetra (pos 1 ∷ pos 2 ∷ pos 3 ∷ []) (pos 1 ∷ pos 2 ∷ pos 7 ∷ []) (tetra_at2 6 (at (pos 1) (pos 3) (pos 2)))
    (tetra_at2 10 (at (pos 1) (pos 7) (pos 2)))

tetra_ranges : TetraRanges
unfolding range_call
tetra_ranges = (refl, refl)

-- ---- 1 and 2

-- a call that answers k and leaves every slice as lent
abbrev LeavesAll : ℕ → ℕ → List ℕ → List ℤ → List ℤ → List ℤ → List ℤ → List ℤ → ℕ → Type 0
LeavesAll n place ts lows highs low_bs high_bs scratch k =
    range_call n place ts lows highs low_bs high_bs scratch
    ≡ record { answer = refused (numbered k); low_coordinates = low_bs; high_coordinates = high_bs; scratch = scratch }

-- 1 before 2, and 4,096 vertices are not too many: the slices of n = 3 have another length than is wanted for 2, for 4,096 and for 4,097.
abbrev Vertices : Type 0
Vertices =
    LeavesAll 2 0 pair (pos 5 ∷ []) (pos 5 ∷ []) (lent 9) (lent_high 9) (lent_scratch 3) 1
    × LeavesAll 4097 0 pair (pos 5 ∷ []) (pos 5 ∷ []) (lent 9) (lent_high 9) (lent_scratch 3) 1
    × LeavesAll 4096 0 pair (pos 5 ∷ []) (pos 5 ∷ []) (lent 9) (lent_high 9) (lent_scratch 3) 2

vertices : Vertices
unfolding range_call
vertices = (refl, refl, refl)

-- Each of the six slices, an item too short and too long, while the rest have their lengths. 2 is asked before 21 and 29: the outer place is 2, and the low 6
-- is above the high 5.
abbrev Lengths : Type 0
Lengths =
    let low = pos 6 in
    let high = pos 5 in
    let lows = low ∷ [] in
    let highs = high ∷ [] in
    LeavesAll 3 2 (0 ∷ 2 ∷ 1 ∷ 0 ∷ 1 ∷ []) lows highs (lent 9) (lent_high 9) (lent_scratch 3) 2
    × LeavesAll 3 2 (pair ++ (0 ∷ [])) lows highs (lent 9) (lent_high 9) (lent_scratch 3) 2
    × LeavesAll 3 2 pair lows highs (lent 9) (lent_high 9) (lent 29) 2
    × LeavesAll 3 2 pair lows highs (lent 9) (lent_high 9) (lent 31) 2
    × LeavesAll 3 2 pair [] highs (lent 9) (lent_high 9) (lent_scratch 3) 2
    × LeavesAll 3 2 pair (low ∷ lows) highs (lent 9) (lent_high 9) (lent_scratch 3) 2
    × LeavesAll 3 2 pair lows [] (lent 9) (lent_high 9) (lent_scratch 3) 2
    × LeavesAll 3 2 pair lows (high ∷ highs) (lent 9) (lent_high 9) (lent_scratch 3) 2
    × LeavesAll 3 2 pair lows highs (lent 8) (lent_high 9) (lent_scratch 3) 2
    × LeavesAll 3 2 pair lows highs (lent 10) (lent_high 9) (lent_scratch 3) 2
    × LeavesAll 3 2 pair lows highs (lent 9) (lent_high 8) (lent_scratch 3) 2
    × LeavesAll 3 2 pair lows highs (lent 9) (lent_high 10) (lent_scratch 3) 2

lengths : Lengths
unfolding range_call
lengths = (refl, refl, refl, refl, refl, refl, refl, refl, refl, refl, refl, refl)

-- ---- the rows after them, in their order

-- a call that is refused, with scratch cleared and every other slice as lent
abbrev Refuses : ℕ → ℕ → List ℕ → List ℤ → List ℤ → Refusal → Type 0
Refuses n place ts lows highs why =
    range_call n place ts lows highs (lent (coordinates_length n)) (lent_high (coordinates_length n)) (lent_scratch n)
    ≡ record {
      answer = refused why;
      low_coordinates = lent (coordinates_length n);
      high_coordinates = lent_high (coordinates_length n);
      scratch = cleared_scratch n;
    }

-- 21 before 29: n = 3 has no triangle at the place 2, and a low above its high.
abbrev NoSuchTriangle : Type 0
NoSuchTriangle = Refuses 3 2 pair (pos 6 ∷ []) (pos 5 ∷ []) (numbered 21) × Refuses 3 (2 ^ 64 - 1) pair (pos 6 ∷ []) (pos 5 ∷ []) (numbered 21)

no_such_triangle : NoSuchTriangle
unfolding range_call
no_such_triangle = (refl, refl)

-- 29 before 3 and before 8: vertex 3 of n = 3; two pieces, where the last low alone is above its high. 29 before 9: both are past L.
abbrev OrderOf29 : Type 0
OrderOf29 =
    Refuses 3 1 (0 ∷ 2 ∷ 1 ∷ 0 ∷ 1 ∷ 3 ∷ []) (pos 6 ∷ []) (pos 5 ∷ []) (numbered 29)
    × Refuses 10 2 pair_and_torus (replicate 14 (pos 5) ++ (pos 6 ∷ [])) (replicate 15 (pos 5)) (numbered 29)
    × Refuses 3 1 pair (pos (L + 2) ∷ []) (pos (L + 1) ∷ []) (numbered 29)

order_of_29 : OrderOf29
unfolding range_call
order_of_29 = (refl, refl, refl)

-- The mesh's own rows, at an outer place other than 0, before 9: every low and every high is past L.
abbrev MeshRefuses : ℕ → ℕ → List ℕ → Refusal → Type 0
MeshRefuses n place ts why = Refuses n place ts (replicate (weights_length n) (pos (L + 1))) (replicate (weights_length n) (pos (L + 1))) why

abbrev MeshFirst : Type 0
MeshFirst =
    MeshRefuses 3 1 (0 ∷ 2 ∷ 1 ∷ 0 ∷ 1 ∷ 3 ∷ []) (numbered 3)
    × MeshRefuses 3 1 (0 ∷ 2 ∷ 1 ∷ 0 ∷ 0 ∷ 1 ∷ []) (numbered 4)
    × MeshRefuses 3 1 (0 ∷ 2 ∷ 1 ∷ 0 ∷ 2 ∷ 1 ∷ []) (numbered 5)
    × MeshRefuses 6 7 side_without_opposite (numbered 6)
    × MeshRefuses 6 7 four_spheres (vertex_pinched 0)
    × MeshRefuses 8 11 stray_below (vertex_stray 3)
    × MeshRefuses 10 2 pair_and_torus (numbered 8)

mesh-first : MeshFirst
unfolding range_call
mesh-first = (refl, refl, refl, refl, refl, refl, refl)

-- 9. The absolute values of the lows alone sum to L + 1, and then those of the highs alone. At the outer place 0 both sum to L, which passes: N = -L and L.
abbrev EitherPastLimit : Type 0
EitherPastLimit =
    Refuses 4 1 tetra (minus 1_073_741_822 ∷ pos 1 ∷ minus 1 ∷ []) (pos 0 ∷ pos 1 ∷ pos 0 ∷ []) (numbered 9)
    × Refuses 4 1 tetra (pos 0 ∷ minus 1 ∷ pos 0 ∷ []) (pos 1_073_741_822 ∷ minus 1 ∷ pos 1 ∷ []) (numbered 9)
    × Ranges 4 0 tetra (minus 1_073_741_822 ∷ pos 0 ∷ minus 1 ∷ []) (pos 1_073_741_822 ∷ pos 0 ∷ pos 1 ∷ [])
    (tetra_at (minus L) (minus 1_073_741_822) (pos 0) (minus 1)) (tetra_at (pos L) (pos 1_073_741_822) (pos 0) (pos 1))

either_past_limit : EitherPastLimit
unfolding range_call
either_past_limit = (refl, refl, refl)

-- ---- what is accepted, and what lies within

-- Two lists whose absolute values sum to L are ranges, and a range may be one number. A low above its high is none, nor is a list without its number, nor
-- one past L, whichever of the two it is.
abbrev AcceptedPairs : Type 0
AcceptedPairs =
    AcceptedRanges 3 (minus L ∷ []) (pos L ∷ [])
    × AcceptedRanges 3 (pos 5 ∷ []) (pos 5 ∷ [])
    × (¬ AcceptedRanges 3 (pos 6 ∷ []) (pos 5 ∷ []))
    × (¬ AcceptedRanges 3 [] (pos 5 ∷ []))
    × (¬ AcceptedRanges 3 (pos 5 ∷ []) [])
    × (¬ AcceptedRanges 3 (minus (L + 1) ∷ []) (pos 5 ∷ []))
    × (¬ AcceptedRanges 3 (pos 5 ∷ []) (pos (L + 1) ∷ []))

accepted_pairs : AcceptedPairs
unfolding range_call
accepted_pairs = (
  ((refl, refl), (refl, refl), refl),
  ((refl, refl), (refl, refl), refl),
  λ a. true≢false a.2,
  λ a. omega (arith, a.0.0),
  λ a. omega (arith, a.1.0),
  λ a. true≢false a.0.1,
  λ a. true≢false a.1.1,
)

-- Of the tetra's three ranges, -2 to 5, 3 to 3 and 0 to L: their lows, their highs and a list between lie within. A number below its low or above its high does
-- not, in the first triangle or the last, nor do two numbers.
abbrev InTetra : List ℤ → Type 0
InTetra = Within 4 (minus 2 ∷ pos 3 ∷ pos 0 ∷ []) (pos 5 ∷ pos 3 ∷ pos L ∷ [])

abbrev Choices : Type 0
Choices =
    InTetra (minus 2 ∷ pos 3 ∷ pos 0 ∷ [])
    × InTetra (pos 5 ∷ pos 3 ∷ pos L ∷ [])
    × InTetra (minus 1 ∷ pos 3 ∷ pos 7 ∷ [])
    × (¬ InTetra (minus 3 ∷ pos 3 ∷ pos 7 ∷ []))
    × (¬ InTetra (pos 6 ∷ pos 3 ∷ pos 7 ∷ []))
    × (¬ InTetra (minus 1 ∷ pos 3 ∷ minus 1 ∷ []))
    × (¬ InTetra (minus 1 ∷ pos 3 ∷ pos (L + 1) ∷ []))
    × (¬ InTetra (minus 1 ∷ pos 3 ∷ []))

-- of each of three triangles
of_three : (P : ℕ → Type 0) → P 1 → P 2 → P 3 → (t : ℕ) → 1 ≤ t → t ≤ 3 → P t
of_three P a b c zero h k = absurd (omega arith)
of_three P a b c (suc zero) h k = a
of_three P a b c (suc (suc zero)) h k = b
of_three P a b c (suc (suc (suc zero))) h k = c
of_three P a b c (suc (suc (suc (suc t)))) h k = absurd (omega arith)

abbrev InRange : List ℤ → ℕ → Type 0
InRange ws t =
    (weight (minus 2 ∷ pos 3 ∷ pos 0 ∷ []) t ≤ℤ weight ws t) × (weight ws t ≤ℤ weight (pos 5 ∷ pos 3 ∷ pos L ∷ []) t)

-- both tests are passed
in_range : {a b c : ℤ} → T (le_z a b) → T (le_z b c) → (a ≤ℤ b) × (b ≤ℤ c)
in_range p q = (le_z_yes p, le_z_yes q)

choices : Choices
unfolding weight
choices = (
  (refl, of_three (InRange (minus 2 ∷ pos 3 ∷ pos 0 ∷ [])) (in_range tt tt) (in_range tt tt) (in_range tt tt)),
  (refl, of_three (InRange (pos 5 ∷ pos 3 ∷ pos L ∷ [])) (in_range tt tt) (in_range tt tt) (in_range tt tt)),
  (refl, of_three (InRange (minus 1 ∷ pos 3 ∷ pos 7 ∷ [])) (in_range tt tt) (in_range tt tt) (in_range tt tt)),
  λ w. (w.1 1 (omega arith) (omega arith)).0.le,
  λ w. (w.1 1 (omega arith) (omega arith)).1.le,
  λ w. (w.1 3 (omega arith) (omega arith)).0.le,
  λ w. (w.1 3 (omega arith) (omega arith)).1.le,
  λ w. omega (arith, w.0),
)

pub range-cases :
    Every
    (LowAboveHigh ∷ Signs ∷ PairRanges ∷ TetraRanges ∷ Vertices ∷ Lengths ∷ NoSuchTriangle ∷ OrderOf29 ∷ MeshFirst ∷ EitherPastLimit
    ∷ AcceptedPairs ∷ Choices ∷ [])
range-cases =
    low_above-high and signs and pair_ranges and tetra_ranges and vertices and lengths and no_such_triangle and order_of_29 and mesh-first
    and either_past_limit and accepted_pairs and choices and all_held
