-- Document 01's table of refusals with the rows that document 02 adds to it, example by example, and the example of "Job text and packmap", computed of
-- the definitions. Assumes nothing.
use Rattle.std.specs.Prelude.{ℕ, ◌+◌, ◌-◌, ◌≡◌, refl, List, [], ◌∷◌, ◌++◌, map, length, replicate, ℤ, pos, Float}
use Rattle.std.specs.Float.Ieee.{of_bits}
use Rattle.std.specs.Float.{binary64}
use Rattle.definitions.specs.Answers.{Refusal, refused, numbered, vertex_pinched, vertex_stray, stopped_after, share_outside}
use Rattle.definitions.specs.Refusals.{check_call, forward_call, range_call, backward_call, repair_call, snap_call}
use Rattle.definitions.specs.Job.{bytes, host_call, prints}
use Rattle.definitions.proofs.CheckedShells.{Every, all_held, ◌and◌, tetra, stale, lent, zeros, lent_scratch, cleared_scratch, minus, half, tetra_at}

-- ---- the mesh: 1 to 8, and 25 at the place of 7

-- the mesh check of n and its triangles answers k; scratch holds what `left` says
abbrev Refuses : ℕ → List ℕ → ℕ → List ℤ → Type 0
Refuses n ts k left = check_call n 0 ts (lent_scratch n) ≡ record { answer = refused (numbered k); scratch = left }

-- it answers 7 or 25, with the vertex
abbrev RefusesVertex : ℕ → List ℕ → Refusal → Type 0
RefusesVertex n ts why = check_call n 0 ts (lent_scratch n) ≡ record { answer = refused why; scratch = cleared_scratch n }

abbrev Row1 : Type 0
Row1 = Refuses 2 [] 1 (lent_scratch 2)

r1 : Row1
unfolding check_call
r1 = refl

abbrev Row2 : Type 0
Row2 =
    forward_call 4 0 tetra (pos 5 ∷ pos 3 ∷ []) (lent 12) (lent_scratch 4)
    ≡ record { answer = refused (numbered 2); coordinates = lent 12; scratch = lent_scratch 4 }

r2 : Row2
unfolding forward_call
r2 = refl

-- an outer number of 2n - 4 or more: the places of the tetra's four triangles are 0 to 3
abbrev Row21 : Type 0
Row21 = check_call 4 4 tetra (lent_scratch 4) ≡ record { answer = refused (numbered 21); scratch = cleared_scratch 4 }

r21 : Row21
unfolding check_call
r21 = refl

-- a low above its high, that of the third inner triangle
abbrev Row29 : Type 0
Row29 =
    range_call 4 0 tetra (pos 5 ∷ pos 3 ∷ pos 2 ∷ []) (pos 5 ∷ pos 3 ∷ pos 1 ∷ []) (lent 12) (zeros 12) (lent_scratch 4)
    ≡ record { answer = refused (numbered 29); low_coordinates = lent 12; high_coordinates = zeros 12; scratch = cleared_scratch 4 }

r29 : Row29
unfolding range_call
r29 = refl

abbrev Row3 : Type 0
Row3 = Refuses 3 (0 ∷ 2 ∷ 1 ∷ 0 ∷ 1 ∷ 3 ∷ []) 3 (cleared_scratch 3)

r3 : Row3
unfolding check_call
r3 = refl

abbrev Row4 : Type 0
Row4 = Refuses 3 (0 ∷ 2 ∷ 1 ∷ 0 ∷ 0 ∷ 1 ∷ []) 4 (cleared_scratch 3)

r4 : Row4
unfolding check_call
r4 = refl

abbrev Row5 : Type 0
Row5 = Refuses 3 (0 ∷ 2 ∷ 1 ∷ 0 ∷ 2 ∷ 1 ∷ []) 5 (cleared_scratch 3)

r5 : Row5
unfolding check_call
r5 = refl

abbrev pub side_without_opposite : List ℕ
side_without_opposite = 0 ∷ 1 ∷ 2 ∷ 0 ∷ 2 ∷ 3 ∷ 0 ∷ 3 ∷ 4 ∷ 0 ∷ 4 ∷ 5 ∷ 0 ∷ 5 ∷ 1 ∷ 1 ∷ 5 ∷ 4 ∷ 1 ∷ 4 ∷ 3 ∷ 2 ∷ 5 ∷ 3 ∷ []

abbrev Row6 : Type 0
Row6 = Refuses 6 side_without_opposite 6 (cleared_scratch 6)

r6 : Row6
unfolding check_call
r6 = refl

-- a bipyramid over the sides of a, b, c, with the tips 3 and 4
abbrev bipyramid : ℕ → ℕ → ℕ → List ℕ
bipyramid a b c = a ∷ b ∷ 3 ∷ b ∷ c ∷ 3 ∷ c ∷ a ∷ 3 ∷ b ∷ a ∷ 4 ∷ c ∷ b ∷ 4 ∷ a ∷ c ∷ 4 ∷ []

-- both tips have two rings
abbrev pub bipyramids : List ℕ
bipyramids = bipyramid 0 1 2 ++ bipyramid 5 6 7

abbrev Row7 : Type 0
Row7 = RefusesVertex 8 bipyramids (vertex_pinched 3)

r7 : Row7
unfolding check_call
r7 = refl

-- the torus (i, i + 1, i + 3), (i, i + 3, i + 2) modulo 7, plus 4
abbrev pub torus : List ℕ
torus =
    4 ∷ 5 ∷ 7 ∷ 4 ∷ 7 ∷ 6
    ∷ 5 ∷ 6 ∷ 8 ∷ 5 ∷ 8 ∷ 7
    ∷ 6 ∷ 7 ∷ 9 ∷ 6 ∷ 9 ∷ 8
    ∷ 7 ∷ 8 ∷ 10 ∷ 7 ∷ 10 ∷ 9
    ∷ 8 ∷ 9 ∷ 4 ∷ 8 ∷ 4 ∷ 10
    ∷ 9 ∷ 10 ∷ 5 ∷ 9 ∷ 5 ∷ 4
    ∷ 10 ∷ 4 ∷ 6 ∷ 10 ∷ 6 ∷ 5
    ∷ []

-- on the vertices 0 to 6 of n = 9: no triangle touches 7 and 8
abbrev Row25 : Type 0
Row25 = RefusesVertex 9 (map (λ v. v - 4) torus) (vertex_stray 7)

r25 : Row25
unfolding check_call
r25 = refl

abbrev Row8 : Type 0
Row8 = Refuses 11 (tetra ++ torus) 8 (cleared_scratch 11)

r8 : Row8
unfolding check_call
r8 = refl

-- ---- weights and coordinates: 9 to 13

-- L, as document 01 writes it
abbrev pub L : ℕ
L = 1_073_741_823

abbrev Row9 : Type 0
Row9 =
    forward_call 4 0 tetra (pos L ∷ pos 1 ∷ pos 0 ∷ []) (lent 12) (lent_scratch 4)
    ≡ record { answer = refused (numbered 9); coordinates = lent 12; scratch = cleared_scratch 4 }

r9 : Row9
unfolding forward_call
r9 = refl

-- coordinates of the tetra that backward refuses
abbrev Backs : List ℤ → ℕ → Type 0
Backs bs k = backward_call 4 0 tetra bs (lent 3) (lent_scratch 4) ≡ record { answer = refused (numbered k); weights = lent 3; scratch = cleared_scratch 4 }

abbrev Row10 : Type 0
Row10 = Backs (tetra_at (pos 10) (pos 5) (pos (L + 1)) (pos 2)) 10

r10 : Row10
unfolding backward_call
r10 = refl

abbrev Row11 : Type 0
Row11 = Backs (pos 9 ∷ pos 0 ∷ pos 0 ∷ pos 1 ∷ pos 8 ∷ pos 0 ∷ pos 0 ∷ pos 0 ∷ pos 9 ∷ pos 3 ∷ pos 5 ∷ pos 1 ∷ []) 11

r11 : Row11
unfolding backward_call
r11 = refl

abbrev Row12 : Type 0
Row12 = Backs (tetra_at (pos 9) (pos 5) (pos 3) (pos 2)) 12

r12 : Row12
unfolding backward_call
r12 = refl

-- N = 4 - L is below 1, so the first triangle is raised first. Its m is L - 3, b2 of the inner vertex less that of v2, and 1 + m is more than 1 - N. With 1 + m
-- added to its weight the absolute values would sum to 2L - 2. No raise is made.
abbrev Row13 : Type 0
Row13 =
    let ws = pos 1 ∷ minus 1_073_741_821 ∷ pos 1 ∷ [] in
    repair_call 4 0 tetra ws (lent 12) (lent_scratch 4)
    ≡ record {
      answer = refused (stopped_after 0);
      weights = ws;
      coordinates = tetra_at (minus 1_073_741_819) (pos 1) (minus 1_073_741_821) (pos 1);
      scratch = cleared_scratch 4;
    }

r13 : Row13
unfolding repair_call
r13 = refl

-- ---- drawn points: 14 to 16

-- shares by their bits: infinity, a NaN, 2.5, and the next above 2
abbrev infinite : Float
infinite = of_bits binary64 0x7ff0_0000_0000_0000

abbrev pub no_number : Float
no_number = of_bits binary64 0xfff8_0000_0000_0001

abbrev pub two_and_half : Float
two_and_half = of_bits binary64 0x4004_0000_0000_0000

abbrev above_two : Float
above_two = of_bits binary64 0x4000_0000_0000_0001

-- three points, of which the second is (x, y)
abbrev points : Float → Float → List Float
points x y = half ∷ half ∷ x ∷ y ∷ half ∷ half ∷ []

abbrev Row14 : Type 0
Row14 = snap_call 3 (points half half) 25 (lent 9) ≡ record { answer = refused (numbered 14); coordinates = lent 9 }

r14 : Row14
unfolding snap_call of_bits
r14 = refl

abbrev Row15 : Type 0
Row15 =
    (snap_call 3 (points infinite half) 4 (lent 9) ≡ record { answer = refused (numbered 15); coordinates = lent 9 })
    × (snap_call 3 (points half no_number) 4 (lent 9) ≡ record { answer = refused (numbered 15); coordinates = lent 9 })

r15 : Row15
unfolding snap_call of_bits
r15 = (refl, refl)

abbrev Row16 : Type 0
Row16 =
    (snap_call 3 (points two_and_half half) 4 (lent 9) ≡ record { answer = refused (share_outside two_and_half); coordinates = lent 9 })
    × (snap_call 3 (points half above_two) 4 (lent 9) ≡ record { answer = refused (share_outside above_two); coordinates = lent 9 })

r16 : Row16
unfolding snap_call of_bits
r16 = (refl, refl)

-- ---- texts: 17 to 19

-- the tetra's triangles as lines, and the example of document 01 with its listing
abbrev pub tetra_lines : List ℕ
tetra_lines = bytes "t\t0\t2\t1\nt\t0\t3\t2\nt\t3\t1\t2\nt\t0\t1\t3\n"

abbrev pub example_text : List ℕ
example_text = bytes "pack-map\t4\n" ++ tetra_lines ++ bytes "w\t5\nw\t3\nw\t-1\n"

abbrev pub example_listing : List ℕ
example_listing = bytes "pack-map\t4\t9\t1\nv\t0\t9\t0\t0\nv\t1\t0\t9\t0\nv\t2\t0\t0\t9\nv\t3\t3\t5\t1\n"

abbrev Row17 : Type 0
Row17 = prints (bytes "pack-map\t4\nt\t01\t2\t1\n") ≡ bytes "refused\t17\t2\n"

r17 : Row17
unfolding prints
r17 = refl

abbrev Row18 : Type 0
Row18 = host_call example_text (stale 5) ≡ record { number = 65536 + 18; listing = stale 5 }

r18 : Row18
unfolding host_call
r18 = refl

abbrev Row19 : Type 0
Row19 = prints (replicate 16385 10) ≡ bytes "refused\t19\t0\n"

r19 : Row19
unfolding prints
r19 = refl

abbrev ExampleJob : Type 0
ExampleJob =
    (prints example_text ≡ example_listing)
    × (host_call example_text (stale 100) ≡ record { number = length example_listing; listing = example_listing ++ stale (100 - length example_listing) })

pub example_job : ExampleJob
unfolding host_call prints
example_job = (refl, refl)

pub table :
    Every
    (Row1 ∷ Row2 ∷ Row21 ∷ Row29 ∷ Row3 ∷ Row4 ∷ Row5 ∷ Row6 ∷ Row7 ∷ Row25 ∷ Row8 ∷ Row9 ∷ Row10 ∷ Row11 ∷ Row12 ∷ Row13 ∷ Row14
    ∷ Row15 ∷ Row16 ∷ Row17 ∷ Row18 ∷ Row19 ∷ [])
table =
    r1 and r2 and r21 and r29 and r3 and r4 and r5 and r6 and r7 and r25 and r8 and r9 and r10 and r11 and r12 and r13 and r14 and r15 and r16 and r17
    and r18 and r19 and all_held
