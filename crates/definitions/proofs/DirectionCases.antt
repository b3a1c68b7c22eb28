-- Cases of our own for document 02's C-13, computed of the definitions: the eight formulas over plain numbers, the directions of sides, and the weights of
-- three shells. What each expects is worked out from the papers by hand; the comments say how. Assumes nothing.
use Rattle.std.specs.Prelude.{ℕ, ◌≡◌, refl, Bool, true, false, cond, List, [], ◌∷◌, eqb, ℤ, pos}
use Rattle.definitions.specs.Lists.{filter}
use Rattle.definitions.specs.Mesh.{darts}
use Rattle.definitions.specs.Backward.{coordinate, backward}
use Rattle.definitions.specs.Directions.{eight_cases, runs, backward_by_cases}
use Rattle.definitions.proofs.CheckedShells.{Every, all_held, ◌and◌, minus, pair, tetra, tetra_at}
use Rattle.definitions.proofs.LabelCases.{six, six_labels, mixed, mixed_labels}
use Rattle.definitions.proofs.MapCases.{placed}

-- ---- the formulas

-- Vertex 0 at (1, 2, 4), vertex 1 at (8, 16, 32), vertex 2 at (64, 128, 256), N = 1,000: each number tells what was added and what was taken off. With the
-- corners p, q, r at 0, 1, 2: 1,000 - 64 - 2 - 32, 256 - 32, 16 - 2, 16 - 128, 1 - 64, 256 - 4, 1 - 8, 1,000 - 8 - 128 - 4.
abbrev Formula : Bool → Bool → Bool → ℤ → Type 0
Formula pq qr rp w =
    let bs = pos 1 ∷ pos 2 ∷ pos 4 ∷ pos 8 ∷ pos 16 ∷ pos 32 ∷ pos 64 ∷ pos 128 ∷ pos 256 ∷ [] in
    eight_cases (coordinate bs) (pos 1000) 0 1 2 pq qr rp ≡ w

abbrev Formulas : Type 0
Formulas =
    Formula false false false (pos 902)
    × Formula false false true (pos 224)
    × Formula false true false (pos 14)
    × Formula false true true (minus 112)
    × Formula true false false (minus 63)
    × Formula true false true (pos 252)
    × Formula true true false (minus 7)
    × Formula true true true (pos 860)

formulas : Formulas
unfolding eight_cases coordinate
formulas = (refl, refl, refl, refl, refl, refl, refl, refl)

-- ---- directions

-- `LabelCases` has the colours of `mixed`. Its inner sides run 5 to 1, 0 to 1, 0 to 3, 5 to 4, 2 to 0, 0 to 5, 5 to 2, 2 to 3 and 2 to 4: darts 3, 7, 10, 14,
-- 15, 16, 17, 18 and 21. Its rim sides are the darts 0, 1, 2, 4, 11 and 22: each counts as the choice says.
abbrev Runs : (ℕ → Bool) → List ℕ → Type 0
Runs either ds = filter (runs either mixed mixed_labels) (darts mixed) ≡ ds

abbrev Directions : Type 0
Directions =
    Runs (λ d. false) (3 ∷ 7 ∷ 10 ∷ 14 ∷ 15 ∷ 16 ∷ 17 ∷ 18 ∷ 21 ∷ [])
    × Runs (λ d. true) (0 ∷ 1 ∷ 2 ∷ 3 ∷ 4 ∷ 7 ∷ 10 ∷ 11 ∷ 14 ∷ 15 ∷ 16 ∷ 17 ∷ 18 ∷ 21 ∷ 22 ∷ [])
    × Runs (eqb 11) (3 ∷ 7 ∷ 10 ∷ 11 ∷ 14 ∷ 15 ∷ 16 ∷ 17 ∷ 18 ∷ 21 ∷ [])

directions : Directions
unfolding filter runs darts
directions = (refl, refl, refl)

-- ---- weights

-- P1's shell: all three sides of its one inner triangle are on the rim, so each of the eight cases may be taken. Its corners are v0, v1, v2, and each case
-- gives N = 7, with v1 at (x, y, 0) = (0, 7, 0).
abbrev OfPair : ℤ → ℤ → Bool → Bool → Bool → ℤ → Type 0
OfPair x y pq qr rp w =
    let o = pos 0 in
    backward_by_cases (λ d. cond (eqb d 3) pq (cond (eqb d 4) qr rp)) pair (0 ∷ 1 ∷ 2 ∷ []) (pos 7 ∷ o ∷ o ∷ x ∷ y ∷ o ∷ o ∷ o ∷ pos 7 ∷ [])
    ≡ w ∷ []

abbrev Seven : Bool → Bool → Bool → Type 0
Seven pq qr rp = OfPair (pos 0) (pos 7) pq qr rp (pos 7)

abbrev AllRim : Type 0
AllRim =
    Seven false false false
    × Seven false false true
    × Seven false true false
    × Seven false true true
    × Seven true false false
    × Seven true false true
    × Seven true true false
    × Seven true true true

all_rim : AllRim
unfolding backward_by_cases
all_rim = (refl, refl, refl, refl, refl, refl, refl, refl)

-- Without row 11 the way that a rim side is counted tells: v1 at (1, 6, 0), 7 - 1 and 7 - 0. Without row 12 a case is not document 01's weight: on the tetra
-- with N = 9 and vertex 3 at (3, 5, 2), triangle 3 has 2 - 0 by its case and 9 - 3 - 5 by document 01.
abbrev off_sum : List ℤ
off_sum = tetra_at (pos 9) (pos 5) (pos 3) (pos 2)

abbrev tetra_labels : List ℕ
tetra_labels = 0 ∷ 1 ∷ 2 ∷ 0 ∷ 1 ∷ 2 ∷ 0 ∷ 1 ∷ 2 ∷ []

abbrev RowsNeeded : Type 0
RowsNeeded =
    OfPair (pos 1) (pos 6) true true false (pos 6)
    × OfPair (pos 1) (pos 6) true false false (pos 7)
    × (backward_by_cases (λ d. false) tetra tetra_labels off_sum ≡ pos 5 ∷ pos 3 ∷ pos 2 ∷ [])
    × (backward tetra tetra_labels off_sum ≡ pos 5 ∷ pos 3 ∷ pos 1 ∷ [])

rows_needed : RowsNeeded
unfolding backward_by_cases backward
rows_needed = (refl, refl, refl, refl)

-- by eight cases, the rim counted either way, and by document 01
abbrev Weights : List ℕ → List ℕ → List ℤ → List ℤ → Type 0
Weights ts ls bs ws =
    (backward_by_cases (λ d. false) ts ls bs ≡ ws) × (backward_by_cases (λ d. true) ts ls bs ≡ ws) × (backward ts ls bs ≡ ws)

-- N = 20, vertex 0 at (3, 7, 10), 2 at (9, 5, 6), 5 at (4, 1, 15). Of each triangle p, q, r, and how its sides p-q, q-r, r-p run, T for that way, F for the
-- other and * for the rim: (4,5,1) FT*, 1 - 0. (5,0,1) FTF, 7 - 1. (0,3,1) T*F, 3 - 0. (4,2,5) FFT, 15 - 6. (5,2,0) TTT, 20 - 9 - 7 - 15.
-- (2,3,0) TFF, 9 - 3. (4,3,2) *FT, 6 - 0.
abbrev MixedWeights : Type 0
MixedWeights =
    Weights mixed mixed_labels (placed (pos 20) (pos 3) (pos 7) (pos 10) (pos 9) (pos 5) (pos 6) (pos 4) (pos 1) (pos 15))
    (pos 1 ∷ pos 6 ∷ pos 3 ∷ pos 9 ∷ minus 11 ∷ pos 6 ∷ pos 6 ∷ [])

mixed_weights : MixedWeights
unfolding backward_by_cases backward
mixed_weights = (refl, refl, refl)

-- v0 = 0, v1 = 1, v2 = 2. N = 20, vertex 3 at (7, 2, 11), 4 at (8, 7, 5), 5 at (3, 9, 8). (0,3,2) FT*, 2 - 0. (3,5,2) TTF, 7 - 3. (5,1,2) T*F, 3 - 0.
-- (0,4,3) FTT, 7 - 2. (4,5,3) FFF, 20 - 7 - 7 - 8. (4,1,5) TFT, 8 - 5. (0,1,4) *FT, 5 - 0.
abbrev SixWeights : Type 0
SixWeights =
    let o = pos 0 in
    Weights six six_labels
    (pos 20 ∷ o ∷ o ∷ o ∷ pos 20 ∷ o ∷ o ∷ o ∷ pos 20 ∷ pos 7 ∷ pos 2 ∷ pos 11 ∷ pos 8 ∷ pos 7 ∷ pos 5 ∷ pos 3 ∷ pos 9 ∷ pos 8 ∷ [])
    (pos 2 ∷ pos 4 ∷ pos 3 ∷ pos 5 ∷ minus 2 ∷ pos 3 ∷ pos 5 ∷ [])

six_weights : SixWeights
unfolding backward_by_cases backward
six_weights = (refl, refl, refl)

pub direction_cases : Every (Formulas ∷ Directions ∷ AllRim ∷ RowsNeeded ∷ MixedWeights ∷ SixWeights ∷ [])
direction_cases =
    formulas and directions and all_rim and rows_needed and mixed_weights and six_weights and all_held
