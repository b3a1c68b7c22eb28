-- Document 01, "Checked shells": P1 to P11, proved of the definitions as a list under a single theorem, `checked_shells`. Assumes nothing.
-- Beside them cases of our own that tell the paper's choices from their neighbours. What each expects is worked out from the paper by hand.
use Rattle.std.specs.Prelude.{ℕ, ◌≡◌, refl, List, [], ◌∷◌, map, replicate, ℤ, pos, neg_ℤ, Float}
use Rattle.std.specs.Float.Ieee.{of_bits}
use Rattle.std.specs.Float.{binary64}
use Rattle.definitions.specs.Lists.{total}
use Rattle.definitions.specs.Answers.{done}
use Rattle.definitions.specs.Mesh.{scratch_length}
use Rattle.definitions.specs.Labels.{labels}
use Rattle.definitions.specs.Forward.{forward}
use Rattle.definitions.specs.Repair.{area, raise}
use Rattle.definitions.specs.DrawnPoints.{whole, snap}
use Rattle.definitions.specs.Refusals.{labels_call, forward_call, backward_call, repair_call}

-- Each of a list of statements. Each is proved by a declaration of its own, here and in the other files of cases: under a `where` the prover would compute
-- it more than once.
infixr 5 ◌and◌
pub data Every : List (Type 0) → Type 1 where
  all_held : Every []
  ◌and◌ : {A : Type 0} {As : List (Type 0)} → A → Every As → Every (A ∷ As)

-- ---- shells

abbrev pub pair : List ℕ
pair = 0 ∷ 2 ∷ 1 ∷ 0 ∷ 1 ∷ 2 ∷ []

abbrev pub tetra : List ℕ
tetra = 0 ∷ 2 ∷ 1 ∷ 0 ∷ 3 ∷ 2 ∷ 3 ∷ 1 ∷ 2 ∷ 0 ∷ 1 ∷ 3 ∷ []

abbrev pub five : List ℕ
five = 0 ∷ 2 ∷ 1 ∷ 0 ∷ 3 ∷ 2 ∷ 3 ∷ 1 ∷ 2 ∷ 0 ∷ 1 ∷ 4 ∷ 1 ∷ 3 ∷ 4 ∷ 3 ∷ 0 ∷ 4 ∷ []

-- ---- lent slices: bytes, numbers and scratch that a call finds there, and scratch as it leaves it

abbrev pub stale : ℕ → List ℕ
stale k = replicate k 9

abbrev pub lent : ℕ → List ℤ
lent k = replicate k (pos 7)

abbrev pub zeros : ℕ → List ℤ
zeros k = replicate k (pos 0)

abbrev pub lent_scratch : ℕ → List ℤ
lent_scratch n = lent (scratch_length n)

abbrev pub cleared_scratch : ℕ → List ℤ
cleared_scratch n = zeros (scratch_length n)

-- - k
abbrev pub minus : ℕ → ℤ
minus k = neg_ℤ (pos k)

-- the shares of P9 to P11, by their bits: 0.5, -0, the largest below 0, and 2
abbrev pub half : Float
half = of_bits binary64 0x3fe0_0000_0000_0000

abbrev minus_zero : Float
minus_zero = of_bits binary64 0x8000_0000_0000_0000

abbrev just_below : Float
just_below = of_bits binary64 0x8000_0000_0000_0001

abbrev pub two : Float
two = of_bits binary64 0x4000_0000_0000_0000

-- the scales from 4 to 24; 0 stands for one of them
abbrev scales : List ℕ
scales = 4 ∷ 5 ∷ 6 ∷ 7 ∷ 8 ∷ 9 ∷ 10 ∷ 11 ∷ 12 ∷ 13 ∷ 14 ∷ 15 ∷ 16 ∷ 17 ∷ 18 ∷ 19 ∷ 20 ∷ 21 ∷ 22 ∷ 23 ∷ 24 ∷ []

-- the coordinates of the tetra's weights a, b, c: the inner vertex has (b, a, c)
abbrev pub tetra_at : ℤ → ℤ → ℤ → ℤ → List ℤ
tetra_at N a b c = N ∷ pos 0 ∷ pos 0 ∷ pos 0 ∷ N ∷ pos 0 ∷ pos 0 ∷ pos 0 ∷ N ∷ b ∷ a ∷ c ∷ []

-- the area numbers of the tetra's inner triangles
abbrev tetra_areas : List ℤ → List ℤ
tetra_areas ws = map (area tetra (labels 4 tetra) (forward 4 tetra (labels 4 tetra) ws)) (1 ∷ 2 ∷ 3 ∷ [])

-- ---- P1 to P11

abbrev pub P1 : Type 0
P1 = labels_call 3 0 pair (stale 3) (lent_scratch 3) ≡ record { answer = done tt; labels = 0 ∷ 1 ∷ 2 ∷ []; scratch = cleared_scratch 3 }

p1 : P1
unfolding labels_call
p1 = refl

abbrev pub P2 : Type 0
P2 =
    labels_call 4 0 tetra (stale 9) (lent_scratch 4)
    ≡ record { answer = done tt; labels = 0 ∷ 1 ∷ 2 ∷ 0 ∷ 1 ∷ 2 ∷ 0 ∷ 1 ∷ 2 ∷ []; scratch = cleared_scratch 4 }

p2 : P2
unfolding labels_call
p2 = refl

abbrev pub P3 : Type 0
P3 =
    labels_call 5 0 five (stale 15) (lent_scratch 5)
    ≡ record {
      answer = done tt;
      labels = 0 ∷ 1 ∷ 2 ∷ 0 ∷ 1 ∷ 2 ∷ 0 ∷ 1 ∷ 2 ∷ 1 ∷ 2 ∷ 0 ∷ 2 ∷ 0 ∷ 1 ∷ [];
      scratch = cleared_scratch 5;
    }

p3 : P3
unfolding labels_call
p3 = refl

-- The outer vertices stand at their corners, N = 5.
abbrev pub P4 : Type 0
P4 =
    forward_call 5 0 five (replicate 5 (pos 1)) (lent 15) (lent_scratch 5)
    ≡ record {
      answer = done tt;
      coordinates =
          pos 5 ∷ pos 0 ∷ pos 0 ∷ pos 0 ∷ pos 5 ∷ pos 0 ∷ pos 0 ∷ pos 0 ∷ pos 5 ∷ pos 1 ∷ pos 1 ∷ pos 3 ∷ pos 2 ∷ pos 2 ∷ pos 1
          ∷ [];
      scratch = cleared_scratch 5;
    }

p4 : P4
unfolding forward_call
p4 = refl

abbrev pub P5 : Type 0
P5 =
    (forward_call 4 0 tetra (pos 5 ∷ pos 3 ∷ pos 2 ∷ []) (lent 12) (lent_scratch 4)
    ≡ record { answer = done tt; coordinates = tetra_at (pos 10) (pos 5) (pos 3) (pos 2); scratch = cleared_scratch 4 })
    × (backward_call 4 0 tetra (tetra_at (pos 10) (pos 5) (pos 3) (pos 2)) (lent 3) (lent_scratch 4)
    ≡ record { answer = done tt; weights = pos 5 ∷ pos 3 ∷ pos 2 ∷ []; scratch = cleared_scratch 4 })

p5 : P5
unfolding forward_call backward_call
p5 = (refl, refl)

abbrev pub P6 : Type 0
P6 =
    (tetra_areas (pos 5 ∷ pos 3 ∷ minus 1 ∷ []) ≡ pos 35 ∷ pos 21 ∷ minus 7 ∷ [])
    × (raise tetra (labels 4 tetra) (tetra_at (pos 7) (pos 5) (pos 3) (minus 1)) 3 ≡ pos 2)
    × (repair_call 4 0 tetra (pos 5 ∷ pos 3 ∷ minus 1 ∷ []) (lent 12) (lent_scratch 4)
    ≡ record {
      answer = done 1;
      weights = pos 5 ∷ pos 3 ∷ pos 1 ∷ [];
      coordinates = tetra_at (pos 9) (pos 5) (pos 3) (pos 1);
      scratch = cleared_scratch 4;
    })

p6 : P6
unfolding labels forward raise area repair_call
p6 = (refl, refl, refl)

abbrev pub P7 : Type 0
P7 =
    repair_call 4 0 tetra (zeros 3) (lent 12) (lent_scratch 4)
    ≡ record {
      answer = done 3;
      weights = replicate 3 (pos 1);
      coordinates = tetra_at (pos 3) (pos 1) (pos 1) (pos 1);
      scratch = cleared_scratch 4;
    }

p7 : P7
unfolding repair_call
p7 = refl

-- three raises since C-21, none before: N is below 1, so triangle 1 is raised first, though no triangle is flat or turned
abbrev pub P8 : Type 0
P8 =
    (total (replicate 3 (minus 1)) ≡ minus 3)
    × (tetra_areas (replicate 3 (minus 1)) ≡ replicate 3 (pos 3))
    × (repair_call 4 0 tetra (replicate 3 (minus 1)) (lent 12) (lent_scratch 4)
    ≡ record {
      answer = done 3;
      weights = pos 3 ∷ pos 2 ∷ pos 1 ∷ [];
      coordinates = tetra_at (pos 6) (pos 3) (pos 2) (pos 1);
      scratch = cleared_scratch 4;
    })

p8 : P8
unfolding labels forward area total repair_call
p8 = (refl, refl, refl)

abbrev pub P9 : Type 0
P9 = (snap 4 half ≡ whole (pos 8)) × (snap 4 minus_zero ≡ whole (pos 0))

p9 : P9
unfolding snap of_bits
p9 = (refl, refl)

-- at every scale; 0 since C-19, -1 before
abbrev pub P10 : Type 0
P10 = map (λ r. snap r just_below) scales ≡ replicate 21 (whole (pos 0))

p10 : P10
unfolding snap of_bits
p10 = refl

abbrev pub P11 : Type 0
P11 = snap 24 two ≡ whole (pos 33_554_432)

p11 : P11
unfolding snap of_bits
p11 = refl

pub checked_shells : Every (P1 ∷ P2 ∷ P3 ∷ P4 ∷ P5 ∷ P6 ∷ P7 ∷ P8 ∷ P9 ∷ P10 ∷ P11 ∷ [])
checked_shells = p1 and p2 and p3 and p4 and p5 and p6 and p7 and p8 and p9 and p10 and p11 and all_held
