-- Cases of our own for "Drawn points", computed of the definitions: scales, shares at the edges, and the order in which shares are looked at. What each
-- expects is worked out from the paper by hand; the comments say how. Assumes nothing.
use Rattle.std.specs.Prelude.{ℕ, ◌+◌, ◌-◌, ◌≡◌, refl, List, [], ◌∷◌, map, replicate, pos, Float}
use Rattle.std.specs.Float.Ieee.{of_bits}
use Rattle.std.specs.Float.{binary64}
use Rattle.definitions.specs.Answers.{Refusal, done, refused, numbered, share_outside}
use Rattle.definitions.specs.DrawnPoints.{Snap, whole, not_finite, beyond, snap}
use Rattle.definitions.specs.Refusals.{Snapped, snap_call}
use Rattle.definitions.proofs.CheckedShells.{Every, all_held, ◌and◌, lent, minus, half, two}
use Rattle.definitions.proofs.RefusalTable.{no_number, two_and_half}

-- ---- shares, by their bits

abbrev minus_two : Float
minus_two = of_bits binary64 0xc000_0000_0000_0000

abbrev minus_quarter : Float
minus_quarter = of_bits binary64 0xbfd0_0000_0000_0000

-- 5/32, -5/32 and 7/32
abbrev five_parts : Float
five_parts = of_bits binary64 0x3fc4_0000_0000_0000

abbrev minus_five_parts : Float
minus_five_parts = of_bits binary64 0xbfc4_0000_0000_0000

abbrev seven_parts : Float
seven_parts = of_bits binary64 0x3fcc_0000_0000_0000

-- the next below -2, -2.5, 3, 4, and the largest of all
abbrev below_minus_two : Float
below_minus_two = of_bits binary64 0xc000_0000_0000_0001

abbrev minus_two_and_half : Float
minus_two_and_half = of_bits binary64 0xc004_0000_0000_0000

abbrev three : Float
three = of_bits binary64 0x4008_0000_0000_0000

abbrev four : Float
four = of_bits binary64 0x4010_0000_0000_0000

abbrev largest : Float
largest = of_bits binary64 0x7fef_ffff_ffff_ffff

abbrev minus_infinite : Float
minus_infinite = of_bits binary64 0xfff0_0000_0000_0000

-- ---- scales

-- At scale 24, 0.5 is 2 ^ 23 and the third coordinate 2 ^ 24 less twice that. 1, 2 and 3 are no scales (25 is the table's example).
abbrev Scales : Type 0
Scales =
    (snap_call 3 (replicate 6 half) 24 (lent 9)
    ≡ record {
      answer = done tt;
      coordinates = pos 8388608 ∷ pos 8388608 ∷ pos 0 ∷ pos 8388608 ∷ pos 8388608 ∷ pos 0 ∷ pos 8388608 ∷ pos 8388608 ∷ pos 0 ∷ [];
    })
    × (map (λ r. snap_call 3 (replicate 6 half) r (lent 9)) (1 ∷ 2 ∷ 3 ∷ [])
    ≡ replicate 3 (record { answer = refused (numbered 14); coordinates = lent 9 }))

scales : Scales
unfolding snap_call of_bits
scales = (refl, refl)

-- ---- shares

-- the points (-2, 2), (2, -2) and (-0.25, -0.25), at a scale
abbrev edge_points : ℕ → Snapped
edge_points scale = snap_call 3 (minus_two ∷ two ∷ two ∷ minus_two ∷ minus_quarter ∷ minus_quarter ∷ []) scale (lent 9)

-- At scale 4: -2 is -32, 2 is 32, -0.25 is -4, and the third coordinates make each sum 16.
abbrev Edges : Type 0
Edges =
    edge_points 4
    ≡ record {
      answer = done tt;
      coordinates = minus 32 ∷ pos 32 ∷ pos 16 ∷ pos 32 ∷ minus 32 ∷ pos 16 ∷ minus 4 ∷ minus 4 ∷ pos 24 ∷ [];
    }

edges : Edges
unfolding snap_call of_bits
edges = refl

-- C-17. At scale 0, which stands for 20: 2 ^ 16 times as much. At scale 16: 2 ^ 12 times as much, as at scale 0 while that stood for 16.
abbrev ScaleZero : Type 0
ScaleZero =
    (edge_points 0
    ≡ record {
      answer = done tt;
      coordinates =
          minus 2097152 ∷ pos 2097152 ∷ pos 1048576 ∷ pos 2097152 ∷ minus 2097152 ∷ pos 1048576 ∷ minus 262144 ∷ minus 262144
          ∷ pos 1572864 ∷ [];
    })
    × (edge_points 16
    ≡ record {
      answer = done tt;
      coordinates =
          minus 131072 ∷ pos 131072 ∷ pos 65536 ∷ pos 131072 ∷ minus 131072 ∷ pos 65536 ∷ minus 16384 ∷ minus 16384 ∷ pos 98304 ∷ [];
    })

scale_zero : ScaleZero
unfolding snap_call of_bits
scale_zero = (refl, refl)

-- ---- the nearest whole number (C-19)

-- what the shares with these bits become at a scale, and those below 0 of the same sizes
abbrev snap_bits : ℕ → List ℕ → List Snap
snap_bits r bits = map (λ b. snap r (of_bits binary64 b)) bits

abbrev snap_minus : ℕ → List ℕ → List Snap
snap_minus r bits = snap_bits r (map (λ b. 0x8000_0000_0000_0000 + b) bits)

-- whole numbers that are 0 or more, and 0 or less
abbrev wholes : List ℕ → List Snap
wholes ks = map (λ k. whole (pos k)) ks

abbrev minus_wholes : List ℕ → List Snap
minus_wholes ks = map (λ k. whole (minus k)) ks

-- 1/32 = 2 ^ -5, 3/32 = 1.5 * 2 ^ -4, 5/32 = 1.25 * 2 ^ -3 and 7/32 = 1.75 * 2 ^ -3: at scale 4 they are 0.5, 1.5, 2.5 and 3.5
abbrev halves : List ℕ
halves = 0x3fa0_0000_0000_0000 ∷ 0x3fb8_0000_0000_0000 ∷ 0x3fc4_0000_0000_0000 ∷ 0x3fcc_0000_0000_0000 ∷ []

-- Of the two numbers beside each the even one is taken, 0 or 2 or 4.
abbrev Halves : Type 0
Halves = (snap_bits 4 halves ≡ wholes (0 ∷ 2 ∷ 2 ∷ 4 ∷ [])) × (snap_minus 4 halves ≡ minus_wholes (0 ∷ 2 ∷ 2 ∷ 4 ∷ []))

on-halves : Halves
unfolding snap of_bits
on-halves = (refl, refl)

-- The shares next to them, one unit in the last place smaller or larger in size: they go to the number below and to the number above.
abbrev BesideHalves : Type 0
BesideHalves =
    (snap_bits 4 (map (λ b. b - 1) halves) ≡ wholes (0 ∷ 1 ∷ 2 ∷ 3 ∷ []))
    × (snap_bits 4 (map (λ b. b + 1) halves) ≡ wholes (1 ∷ 2 ∷ 3 ∷ 4 ∷ []))
    × (snap_minus 4 (map (λ b. b - 1) halves) ≡ minus_wholes (0 ∷ 1 ∷ 2 ∷ 3 ∷ []))
    × (snap_minus 4 (map (λ b. b + 1) halves) ≡ minus_wholes (1 ∷ 2 ∷ 3 ∷ 4 ∷ []))

beside_halves : BesideHalves
unfolding snap of_bits
beside_halves = (refl, refl, refl, refl)

-- 1 + 2 ^ -25 and 1 + 3 * 2 ^ -25: at scale 24 they are 2 ^ 24 + 0.5 and 2 ^ 24 + 1.5.
abbrev fine_halves : List ℕ
fine_halves = 0x3ff0_0000_0800_0000 ∷ 0x3ff0_0000_1800_0000 ∷ []

abbrev FineHalves : Type 0
FineHalves =
    (snap_bits 24 fine_halves ≡ wholes (16777216 ∷ 16777218 ∷ []))
    × (snap_bits 24 (map (λ b. b - 1) fine_halves) ≡ wholes (16777216 ∷ 16777217 ∷ []))
    × (snap_bits 24 (map (λ b. b + 1) fine_halves) ≡ wholes (16777217 ∷ 16777218 ∷ []))
    × (snap_minus 24 fine_halves ≡ minus_wholes (16777216 ∷ 16777218 ∷ []))

fine_halves_lem : FineHalves
unfolding snap of_bits
fine_halves_lem = (refl, refl, refl, refl)

-- 0, the least share above 0 (5e-324), the largest without a leading digit, the least with one; 1.75, and the largest below 2
abbrev ends : List ℕ
ends = 0 ∷ 1 ∷ 0x000f_ffff_ffff_ffff ∷ 0x0010_0000_0000_0000 ∷ 0x3ffc_0000_0000_0000 ∷ 0x3fff_ffff_ffff_ffff ∷ []

-- The first four are closer to 0 than a half, and -0 is 0. 1.75 * 16 is 28 and leaves no rest. The last is 2 ^ -52 short of 2 and becomes what 2 does.
abbrev Ends : Type 0
Ends =
    (snap_bits 4 ends ≡ wholes (0 ∷ 0 ∷ 0 ∷ 0 ∷ 28 ∷ 32 ∷ []))
    × (snap_minus 4 ends ≡ minus_wholes (0 ∷ 0 ∷ 0 ∷ 0 ∷ 28 ∷ 32 ∷ []))
    × (snap_bits 24 ends ≡ wholes (0 ∷ 0 ∷ 0 ∷ 0 ∷ 29360128 ∷ 33554432 ∷ []))
    × (snap_minus 24 ends ≡ minus_wholes (0 ∷ 0 ∷ 0 ∷ 0 ∷ 29360128 ∷ 33554432 ∷ []))

at-ends : Ends
unfolding snap of_bits
at-ends = (refl, refl, refl, refl)

-- At scale 4 the points (5/32, 5/32), (-5/32, 7/32) and (7/32, 7/32). The third coordinate is 16 less the two others: it is not snapped itself, which
-- would make 11, 15 and 9 of the shares 22/32, 30/32 and 18/32.
abbrev ThirdOfHalves : Type 0
ThirdOfHalves =
    snap_call 3 (five_parts ∷ five_parts ∷ minus_five_parts ∷ seven_parts ∷ seven_parts ∷ seven_parts ∷ []) 4 (lent 9)
    ≡ record {
      answer = done tt;
      coordinates = pos 2 ∷ pos 2 ∷ pos 12 ∷ minus 2 ∷ pos 4 ∷ pos 14 ∷ pos 4 ∷ pos 4 ∷ pos 8 ∷ [];
    }

third_of_halves : ThirdOfHalves
unfolding snap_call of_bits
third_of_halves = refl

-- ---- shares that are refused

abbrev Outside : Type 0
Outside =
    map (snap 4) (below_minus_two ∷ minus_two_and_half ∷ three ∷ four ∷ largest ∷ minus_infinite ∷ [])
    ≡ beyond below_minus_two ∷ beyond minus_two_and_half ∷ beyond three ∷ beyond four ∷ beyond largest ∷ not_finite ∷ []

outside : Outside
unfolding snap of_bits
outside = refl

-- ---- the order of shares

-- three points that snapping refuses; all coordinates stay as lent
abbrev PointsRefused : Float → Float → Float → Float → Float → Float → Refusal → Type 0
PointsRefused x1 y1 x2 y2 x3 y3 why =
    snap_call 3 (x1 ∷ y1 ∷ x2 ∷ y2 ∷ x3 ∷ y3 ∷ []) 4 (lent 9) ≡ record { answer = refused why; coordinates = lent 9 }

-- Of two shares that are refused the first decides: x before y, and a point before the next.
abbrev ShareByShare : Type 0
ShareByShare =
    PointsRefused two_and_half no_number half half half half (share_outside two_and_half)
    × PointsRefused no_number two_and_half half half half half (numbered 15)
    × PointsRefused two_and_half minus_two_and_half half half half half (share_outside two_and_half)
    × PointsRefused half minus_two_and_half no_number half half half (share_outside minus_two_and_half)
    × PointsRefused half half half minus_infinite two_and_half half (numbered 15)
    × PointsRefused half half half half half minus_two_and_half (share_outside minus_two_and_half)
    × PointsRefused half half half half no_number two_and_half (numbered 15)

share-by-share : ShareByShare
unfolding snap_call of_bits
share-by-share = (refl, refl, refl, refl, refl, refl, refl)

pub point-cases :
    Every (Scales ∷ Edges ∷ ScaleZero ∷ Halves ∷ BesideHalves ∷ FineHalves ∷ Ends ∷ ThirdOfHalves ∷ Outside ∷ ShareByShare ∷ [])
point-cases =
    scales and edges and scale_zero and on-halves and beside_halves and fine_halves_lem and at-ends and third_of_halves and outside and share-by-share
    and all_held
