-- Cases of our own for "Job text and packmap", computed of the definitions: the layout of lines, numbers, the order of refusals, the listing, and the number
-- and the buffer that the host service gets. What each expects is worked out from the paper by hand; the comments say how. Assumes nothing.
use Rattle.std.specs.Prelude.{ℕ, ◌≡◌, refl, replicate, pos}
use Prim.Native.String.{String}
use mathlib.Core.List.{List, [], ◌∷◌, ◌++◌, flat_map}
use Rattle.definitions.specs.Lists.{upto}
use Rattle.definitions.specs.Answers.{numbered, vertex_pinched, vertex_stray, stopped_after, share_outside, line_broken}
use Rattle.definitions.specs.Job.{bytes, write_line, told_with_text, line_of, host_call, prints}
use Rattle.definitions.proofs.CheckedShells.{Every, all_held, ◌and◌, stale, minus, two}
use Rattle.definitions.proofs.RefusalTable.{tetra_lines, example_text, example_listing}

-- what packmap prints of a text, and of the tetra's text with these lines after its triangles
abbrev Prints : String → String → Type 0
Prints text answer = prints (bytes text) ≡ bytes answer

abbrev PrintsTetra : String → String → Type 0
PrintsTetra weights answer = prints (bytes "pack-map\t4\n" ++ tetra_lines ++ bytes weights) ≡ bytes answer

-- ---- the first line

-- a text that breaks the layout in line 1, and goes on with a line that breaks it too
abbrev HeadBreaks : String → Type 0
HeadBreaks head = Prints head "refused\t17\t1\n"

-- nothing; no LF; an empty line; one field; three; other bytes than pack-map; for the tab a space, and the byte before it; CR before LF
abbrev Heads : Type 0
Heads =
    HeadBreaks ""
    × HeadBreaks "pack-map\t4"
    × HeadBreaks "\nx"
    × HeadBreaks "pack-map\nx"
    × HeadBreaks "pack-map\t4\t\nx"
    × HeadBreaks "pack-map\t4\t4\nx"
    × HeadBreaks "\t4\nx"
    × HeadBreaks "pack-ma\t4\nx"
    × HeadBreaks "pack-mapp\t4\nx"
    × HeadBreaks "pack-map \t4\nx"
    × HeadBreaks "pack_map\t4\nx"
    × HeadBreaks "pack-map 4\nx"
    × (prints (bytes "pack-map" ++ (8 ∷ bytes "4\nx")) ≡ bytes "refused\t17\t1\n")
    × HeadBreaks "pack-map\t4\r\nx"

heads : Heads
unfolding prints
heads = (refl, refl, refl, refl, refl, refl, refl, refl, refl, refl, refl, refl, refl, refl)

-- By layout n is 0 to 65535. What is outside 3 to 256 is 1 directly after the first line; otherwise line 2, the x, is looked at.
abbrev Vertices : Type 0
Vertices =
    HeadBreaks "pack-map\t\nx"
    × HeadBreaks "pack-map\t04\nx"
    × HeadBreaks "pack-map\t-4\nx"
    × HeadBreaks "pack-map\t65536\nx"
    × Prints "pack-map\t65535\nx" "refused\t1\t0\n"
    × Prints "pack-map\t257\nx" "refused\t1\t0\n"
    × Prints "pack-map\t2\nx" "refused\t1\t0\n"
    × Prints "pack-map\t0\nx" "refused\t1\t0\n"
    × Prints "pack-map\t256\nx" "refused\t17\t2\n"
    × Prints "pack-map\t3\nx" "refused\t17\t2\n"

vertices : Vertices
unfolding prints
vertices = (refl, refl, refl, refl, refl, refl, refl, refl, refl, refl)

-- ---- the other lines

-- n = 3 with this line as its first triangle, in line 2
abbrev TriangleBreaks : String → Type 0
TriangleBreaks line = prints (bytes "pack-map\t3\n" ++ bytes line ++ bytes "\nt\t0\t1\t2\nw\t5\n") ≡ bytes "refused\t17\t2\n"

-- no fields or too few, too many, other bytes than t, and each vertex no number or out of range
abbrev Triangles : Type 0
Triangles =
    TriangleBreaks ""
    × TriangleBreaks "t"
    × TriangleBreaks "t\t0"
    × TriangleBreaks "t\t0\t2"
    × TriangleBreaks "t\t0\t2\t1\t"
    × TriangleBreaks "t\t0\t2\t1\t0"
    × TriangleBreaks "\t0\t2\t1"
    × TriangleBreaks "w\t0\t2\t1"
    × TriangleBreaks "tt\t0\t2\t1"
    × TriangleBreaks "t\t65536\t2\t1"
    × TriangleBreaks "t\t0\t65536\t1"
    × TriangleBreaks "t\t0\t2\t65536"
    × TriangleBreaks "t\t\t2\t1"
    × TriangleBreaks "t\t-0\t2\t1"
    × TriangleBreaks "t 0\t2\t1"

triangles : Triangles
unfolding prints
triangles = (refl, refl, refl, refl, refl, refl, refl, refl, refl, refl, refl, refl, refl, refl, refl)

-- the first weight of the tetra, in line 6
abbrev WeightBreaks : String → Type 0
WeightBreaks line = prints (bytes "pack-map\t4\n" ++ tetra_lines ++ bytes line ++ bytes "\nw\t3\nw\t2\n") ≡ bytes "refused\t17\t6\n"

-- Fields and bytes as above. No plus, no leading zero, no -0; the bytes beside those of the digits, alone and after one; and the range.
abbrev Weights : Type 0
Weights =
    WeightBreaks ""
    × WeightBreaks "w"
    × WeightBreaks "w\t5\t"
    × WeightBreaks "w\t5\t5"
    × WeightBreaks "\t5"
    × WeightBreaks "t\t5"
    × WeightBreaks "ww\t5"
    × WeightBreaks "w\t"
    × WeightBreaks "w\t-"
    × WeightBreaks "w\t--5"
    × WeightBreaks "w\t+5"
    × WeightBreaks "w\t05"
    × WeightBreaks "w\t00"
    × WeightBreaks "w\t-05"
    × WeightBreaks "w\t-0"
    × WeightBreaks "w\t/"
    × WeightBreaks "w\t:"
    × WeightBreaks "w\t5/"
    × WeightBreaks "w\t5:"
    × WeightBreaks "w\t2147483648"
    × WeightBreaks "w\t-2147483649"

weights : Weights
unfolding prints
weights = (refl, refl, refl, refl, refl, refl, refl, refl, refl, refl, refl, refl, refl, refl, refl, refl, refl, refl, refl, refl, refl)

-- Lines are counted from 1: a broken one is named by its own number, a missing one by the number after the last, one without its LF and an extra one by its
-- own. n = 3 has the lines 1 to 4, the tetra 1 to 8.
abbrev LineNumbers : Type 0
LineNumbers =
    Prints "pack-map\t4\n" "refused\t17\t2\n"
    × Prints "pack-map\t4\nt\t0\t2\t1\n" "refused\t17\t3\n"
    × Prints "pack-map\t4\nt\t0\t2\t1\nt\t0\t3\t2\nt\t3\t1\nt\t0\t1\t3\n" "refused\t17\t4\n"
    × Prints "pack-map\t3\nt\t0\t2\t1\nt\t0\t1\t2\nw\t5\n\n" "refused\t17\t5\n"
    × PrintsTetra "" "refused\t17\t6\n"
    × PrintsTetra "w\t5\nw\tx\nw\t-1\n" "refused\t17\t7\n"
    × PrintsTetra "w\t5\nw\t3\n" "refused\t17\t8\n"
    × PrintsTetra "w\t5\nw\t3\nw\t-1" "refused\t17\t8\n"
    × PrintsTetra "w\t5\nw\t3\nw\t-1\n\n" "refused\t17\t9\n"
    × PrintsTetra "w\t5\nw\t3\nw\t-1\nw" "refused\t17\t9\n"
    × PrintsTetra "w\t5\nw\t3\nw\t-1\nw\t2\nw\t2\n" "refused\t17\t9\n"

line_numbers : LineNumbers
unfolding prints
line_numbers = (refl, refl, refl, refl, refl, refl, refl, refl, refl, refl, refl)

-- ---- the order of refusals

-- 16,384 bytes are read, and the first line is empty. 16,385 are the table's example.
abbrev LongestText : Type 0
LongestText = prints (replicate 16384 10) ≡ bytes "refused\t17\t1\n"

longest_text : LongestText
unfolding prints
longest_text = refl

-- Lines before the mesh: vertex 3 of n = 3 in line 3, and a broken line 4. The mesh before 9: vertex 65535, and a weight past L. Both ends of the range are
-- read, and they are past L. 13 has no count here.
abbrev Order : Type 0
Order =
    Prints "pack-map\t3\nt\t0\t2\t1\nt\t0\t1\t3\nw\tx\n" "refused\t17\t4\n"
    × Prints "pack-map\t3\nt\t0\t2\t1\nt\t0\t1\t65535\nw\t2147483647\n" "refused\t3\t0\n"
    × PrintsTetra "w\t2147483647\nw\t0\nw\t0\n" "refused\t9\t0\n"
    × PrintsTetra "w\t-2147483648\nw\t0\nw\t0\n" "refused\t9\t0\n"
    × PrintsTetra "w\t1\nw\t-1073741821\nw\t1\n" "refused\t13\t0\n"

order : Order
unfolding prints
order = (refl, refl, refl, refl, refl)

-- Spheres of two triangles that share no side, and weights past L. n = 6: (0,1,2), (0,3,4), (1,3,5) and (2,4,5), so each vertex is in two. n = 8: (1,2,3),
-- (1,4,5), (1,6,7), (2,4,6), (2,5,7) and (3,4,7), so each vertex but 0 is in two or three, and 0 in none. Neither 7 nor 25 tells the vertex here.
abbrev pinched_text : List ℕ
pinched_text =
    bytes "pack-map\t6\nt\t0\t1\t2\nt\t0\t2\t1\nt\t0\t3\t4\nt\t0\t4\t3\nt\t1\t3\t5\nt\t1\t5\t3\nt\t2\t4\t5\nt\t2\t5\t4\n"
    ++ flat_map (λ _. bytes "w\t2147483647\n") (upto 7)

abbrev stray_text : List ℕ
stray_text =
    bytes "pack-map\t8\nt\t1\t2\t3\nt\t1\t3\t2\nt\t1\t4\t5\nt\t1\t5\t4\nt\t1\t6\t7\nt\t1\t7\t6\n"
    ++ bytes "t\t2\t4\t6\nt\t2\t6\t4\nt\t2\t5\t7\nt\t2\t7\t5\nt\t3\t4\t7\nt\t3\t7\t4\n"
    ++ flat_map (λ _. bytes "w\t2147483647\n") (upto 11)

abbrev VertexNotTold : Type 0
VertexNotTold = (prints pinched_text ≡ bytes "refused\t7\t0\n") × (prints stray_text ≡ bytes "refused\t25\t0\n")

vertex_not_told : VertexNotTold
unfolding prints flat_map upto
vertex_not_told = (refl, refl)

-- what a refusal tells where a text is given, and the line that it names
abbrev Told : Type 0
Told =
    (told_with_text (numbered 8) ≡ numbered 8)
    × (told_with_text (vertex_pinched 2) ≡ numbered 7)
    × (told_with_text (vertex_stray 2) ≡ numbered 25)
    × (told_with_text (stopped_after 2) ≡ numbered 13)
    × (told_with_text (share_outside two) ≡ numbered 16)
    × (told_with_text (line_broken 2) ≡ line_broken 2)
    × (line_of (numbered 8) ≡ 0)
    × (line_of (vertex_pinched 2) ≡ 0)
    × (line_of (vertex_stray 2) ≡ 0)
    × (line_of (stopped_after 2) ≡ 0)
    × (line_of (share_outside two) ≡ 0)
    × (line_of (line_broken 2) ≡ 2)

told : Told
unfolding told_with_text line_of
told = (refl, refl, refl, refl, refl, refl, refl, refl, refl, refl, refl, refl)

-- ---- the listing

-- With the weights a, b, c the tetra's vertex 3 is at (b, a, c), and its area numbers are the weights times N. For 120, 9, 87, N is 216 and none is raised.
-- For -10, -120, -3, N is -133. First 1 is raised by 1 - N = 134 (its m is 0 - N), and N is 1. Then 2: m is 124 - N = 123, so -120 becomes 4 and N is 125.
-- Then 3: m is 0 - c = 3, so -3 becomes 1. n = 3 with weight 0: N is 0, so the one triangle is raised, by 1 - N.
abbrev Listings : Type 0
Listings =
    PrintsTetra "w\t120\nw\t9\nw\t87\n" "pack-map\t4\t216\t0\nv\t0\t216\t0\t0\nv\t1\t0\t216\t0\nv\t2\t0\t0\t216\nv\t3\t9\t120\t87\n"
    × PrintsTetra "w\t-10\nw\t-120\nw\t-3\n" "pack-map\t4\t129\t3\nv\t0\t129\t0\t0\nv\t1\t0\t129\t0\nv\t2\t0\t0\t129\nv\t3\t4\t124\t1\n"
    × Prints "pack-map\t3\nt\t0\t2\t1\nt\t0\t1\t2\nw\t0\n" "pack-map\t3\t1\t1\nv\t0\t1\t0\t0\nv\t1\t0\t1\t0\nv\t2\t0\t0\t1\n"

listings : Listings
unfolding prints
listings = (refl, refl, refl)

-- Since C-21 N is 1 or more in every listing, and no listing here has a number below 0. The definition of a line has them all the same: a minus before the
-- digits.
abbrev BelowZero : Type 0
BelowZero = write_line (bytes "v") (pos 3 ∷ minus 120 ∷ minus 10 ∷ minus 3 ∷ []) ≡ bytes "v\t3\t-120\t-10\t-3\n"

below_zero : BelowZero
unfolding write_line
below_zero = refl

-- ---- the host service

-- The example's listing has 15 bytes in its first line and 10 in each of four: 55. A buffer of 55 bytes holds it, one of 54 is 18.
-- 65,536 × (1 + line) plus the number: 65,554 for 18, 65,545 for 9, 65,549 for 13, 65,537 for 1, and 3 × 65,536 + 17 = 196,625 for 17 in line 2. 18 comes
-- last: the buffers of the refused texts are short too. Each of them stays as lent.
abbrev Hosts : Type 0
Hosts =
    (host_call example_text (stale 55) ≡ record { number = 55; listing = example_listing })
    × (host_call example_text (stale 54) ≡ record { number = 65554; listing = stale 54 })
    × (host_call example_text [] ≡ record { number = 65554; listing = [] })
    × (host_call (bytes "pack-map\t4\n" ++ tetra_lines ++ bytes "w\t2147483647\nw\t0\nw\t0\n") (stale 5) ≡ record { number = 65545; listing = stale 5 })
    × (host_call (bytes "pack-map\t4\n" ++ tetra_lines ++ bytes "w\t1\nw\t-1073741821\nw\t1\n") (stale 5) ≡ record { number = 65549; listing = stale 5 })
    × (host_call (bytes "pack-map\t2\n") (stale 5) ≡ record { number = 65537; listing = stale 5 })
    × (host_call (bytes "pack-map\t4\n") (stale 5) ≡ record { number = 196625; listing = stale 5 })

hosts : Hosts
unfolding host_call flat_map upto
hosts = (refl, refl, refl, refl, refl, refl, refl)

pub text-cases :
    Every
    (Heads ∷ Vertices ∷ Triangles ∷ Weights ∷ LineNumbers ∷ LongestText ∷ Order ∷ VertexNotTold ∷ Told ∷ Listings ∷ BelowZero ∷ Hosts ∷ [])
text-cases =
    heads and vertices and triangles and weights and line_numbers and longest_text and order and vertex_not_told and told and listings
    and below_zero and hosts and all_held
