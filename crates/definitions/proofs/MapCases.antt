-- Cases of our own for "Forward" and "Backward", computed of the definitions: paths, walks, coordinates and weights, most of two shells of `LabelCases`:
-- `mixed` has v0 = 4, v1 = 3 and v2 = 1, and `chain` has v0 = 5, v1 = 1 and v2 = 3. What each expects is worked out from the paper by hand; the comments
-- say how. Assumes nothing.
use Rattle.std.specs.Prelude.{ℕ, ◌≡◌, refl, List, [], ◌∷◌, ℤ, pos}
use Rattle.definitions.specs.Answers.{done}
use Rattle.definitions.specs.Forward.{path, walk}
use Rattle.definitions.specs.Refusals.{forward_call, backward_call}
use Rattle.definitions.proofs.CheckedShells.{Every, all_held, ◌and◌, tetra, lent, lent_scratch, cleared_scratch, minus, tetra_at}
use Rattle.definitions.proofs.LabelCases.{chain, mixed, mixed_labels}

-- ---- paths and walks, as darts

abbrev Path : ℕ → ℕ → List ℕ → Type 0
Path c i ds = path mixed mixed_labels c 6 i ≡ ds

abbrev Walk : ℕ → List ℕ → Type 0
Walk t ds = walk mixed mixed_labels 8 t ≡ ds

-- colour 0, to v0 = 4: 0 by 5, and 5 and 2 by one side; v1 and v2 along the rim
abbrev Paths0 : Type 0
Paths0 = Path 0 0 (16 ∷ 14 ∷ []) × Path 0 5 (14 ∷ []) × Path 0 2 (21 ∷ []) × Path 0 3 (2 ∷ []) × Path 0 1 (4 ∷ []) × Path 0 4 []

paths0 : Paths0
unfolding path
paths0 = (refl, refl, refl, refl, refl, refl)

-- colour 1, to v1 = 3: 5 by 2, and 0 and 2 by one side; v0 and v2 along the rim
abbrev Paths1 : Type 0
Paths1 = Path 1 5 (17 ∷ 18 ∷ []) × Path 1 0 (10 ∷ []) × Path 1 2 (18 ∷ []) × Path 1 4 (22 ∷ []) × Path 1 1 (1 ∷ []) × Path 1 3 []

paths1 : Paths1
unfolding path
paths1 = (refl, refl, refl, refl, refl, refl)

-- (5,1,4) has 2 at 1: over 4 to 5 into (4,2,5), which has 2 at 5: over 4 to 2 into (2,4,3), which has 2 at 2: over 4 to 3 into the outer one.
-- (5,0,1) has 2 at 1: over 5 to 0 into (2,0,5), which has 2 at 0: over 5 to 2 into (4,2,5). (1,0,3) has 2 at 1: over 0 to 3 into (2,3,0), which has
-- 2 at 0: over 2 to 3 into (2,4,3).
abbrev Walks : Type 0
Walks = Walk 1 (5 ∷ 12 ∷ 22 ∷ []) × Walk 2 (6 ∷ 17 ∷ 12 ∷ 22 ∷ []) × Walk 3 (10 ∷ 18 ∷ 22 ∷ []) × Walk 7 (22 ∷ []) × Walk 0 []

walks : Walks
unfolding walk
walks = (refl, refl, refl, refl, refl)

-- ---- coordinates and weights

-- The coordinates of vertex 0, then v2 = 1, 2, v1 = 3, v0 = 4, and 5.
abbrev pub placed : ℤ → ℤ → ℤ → ℤ → ℤ → ℤ → ℤ → ℤ → ℤ → ℤ → List ℤ
placed N x0 y0 z0 x2 y2 z2 x5 y5 z5 =
    let o = pos 0 in
    x0 ∷ y0 ∷ z0 ∷ o ∷ o ∷ N ∷ x2 ∷ y2 ∷ z2 ∷ o ∷ N ∷ o ∷ N ∷ o ∷ o ∷ x5 ∷ y5 ∷ z5 ∷ []

-- Each weight is a power of 2, so a sum tells which triangles it is of; N = 127. The sides that the walks cross: 4-5 triangle 1; 0-5 triangle 2; 0-3
-- triangle 3; 2-5 triangles 2, 5; 2-4 triangles 1, 2, 4, 5; 2-3 triangles 3, 6; 3-4 all. Vertex 0: b0 over 0-3 is 4, b1 over 0-5 and 4-5 is 2 + 1.
-- Vertex 2: b0 over 2-3 is 4 + 32, b1 over 2-4 is 1 + 2 + 8 + 16. Vertex 5: b0 over 2-5 and 2-3 is 2 + 16 + 4 + 32, b1 over 4-5 is 1.
abbrev PowersOf2 : Type 0
PowersOf2 =
    forward_call 6 0 mixed (pos 1 ∷ pos 2 ∷ pos 4 ∷ pos 8 ∷ pos 16 ∷ pos 32 ∷ pos 64 ∷ []) (lent 18) (lent_scratch 6)
    ≡ record {
      answer = done tt;
      coordinates = placed (pos 127) (pos 4) (pos 3) (pos 120) (pos 36) (pos 27) (pos 64) (pos 54) (pos 1) (pos 72);
      scratch = cleared_scratch 6;
    }

powers_of2 : PowersOf2
unfolding forward_call
powers_of2 = refl

-- The same weights. The colour-0 path of 4 has three sides, by 2 and 0 to v0; the colour-1 paths are single sides to v1. The sides that the walks cross: 0-5
-- triangle 1; 0-2 triangle 2; 2-4 triangle 3; 1-4 triangle 4; 1-2 triangles 3, 4, 5; 0-1 triangles 2 to 6. Vertex 0 has b0 = 2 + 4 + 8 + 16 + 32 and b1 = 1,
-- vertex 2 has 4 + 8 + 16 and 2 + 1, vertex 4 has 8 and 4 + 2 + 1.
abbrev LongPath : Type 0
LongPath =
    forward_call 6 0 chain (pos 1 ∷ pos 2 ∷ pos 4 ∷ pos 8 ∷ pos 16 ∷ pos 32 ∷ pos 64 ∷ []) (lent 18) (lent_scratch 6)
    ≡ record {
      answer = done tt;
      coordinates =
          pos 62 ∷ pos 1 ∷ pos 64
          ∷ pos 0 ∷ pos 127 ∷ pos 0
          ∷ pos 28 ∷ pos 3 ∷ pos 96
          ∷ pos 0 ∷ pos 0 ∷ pos 127
          ∷ pos 8 ∷ pos 7 ∷ pos 112
          ∷ pos 127 ∷ pos 0 ∷ pos 0
          ∷ [];
      scratch = cleared_scratch 6;
    }

long_path : LongPath
unfolding forward_call
long_path = refl

-- N = 10, vertex 0 at (1, 4, 5), 2 at (4, 1, 5), 5 at (2, 3, 5). The s of colour 0: 0 to 5 has 4 - 3, 5 to 4 has 3, 2 to 4 has 1, 3 to 4 has 10. The s of
-- colour 1: 0 to 3 has 1, 5 to 2 has 2 - 4, 2 to 3 has 4. Every other s is 0. So the weights are 3, 1, 1, 1 - 3 + 2, -2 - 1, 4 - 1, 10 - 1 - 4.
abbrev Signed : Type 0
Signed =
    backward_call 6 0 mixed (placed (pos 10) (pos 1) (pos 4) (pos 5) (pos 4) (pos 1) (pos 5) (pos 2) (pos 3) (pos 5)) (lent 7) (lent_scratch 6)
    ≡ record {
      answer = done tt;
      weights = pos 3 ∷ pos 1 ∷ pos 1 ∷ pos 0 ∷ minus 3 ∷ pos 3 ∷ pos 5 ∷ [];
      scratch = cleared_scratch 6;
    }

signed : Signed
unfolding backward_call
signed = refl

-- N = 0, where v0, v1 and v2 are all at (0, 0, 0), and N = -3. C-21 leaves forward and backward as they are: the tetra's weights a, b, c put vertex 3 at
-- (b, a, c), and come back.
abbrev BothWays : ℤ → ℤ → ℤ → ℤ → Type 0
BothWays N a b c =
    (forward_call 4 0 tetra (a ∷ b ∷ c ∷ []) (lent 12) (lent_scratch 4) ≡ record { answer = done tt; coordinates = tetra_at N a b c; scratch = cleared_scratch 4 })
    × (backward_call 4 0 tetra (tetra_at N a b c) (lent 3) (lent_scratch 4)
    ≡ record { answer = done tt; weights = a ∷ b ∷ c ∷ []; scratch = cleared_scratch 4 })

abbrev AnyTotal : Type 0
AnyTotal = BothWays (pos 0) (pos 2) (minus 3) (pos 1) × BothWays (minus 3) (minus 1) (minus 1) (minus 1)

any_total : AnyTotal
unfolding forward_call backward_call
any_total = ((refl, refl), (refl, refl))

pub map_cases : Every (Paths0 ∷ Paths1 ∷ Walks ∷ PowersOf2 ∷ LongPath ∷ Signed ∷ AnyTotal ∷ [])
map_cases =
    paths0 and paths1 and walks and powers_of2 and long_path and signed and any_total and all_held
