-- Document 01, "Refusals and what stays": the whole outcome of each public call on lent slices, for every input: its answer, and what every lent
-- slice that it may write holds at the end. Definitions only. (Slices that a call only reads do not change: it has them by `&`.)
use Rattle.std.specs.Prelude.{ℕ, ◌*◌, ◌-◌, ◌≤◌, ◌≡◌, Bool, false, not, ◌&&◌, ◌||◌, cond, List, [], ◌∷◌, ◌++◌, map, leb, ltb, eqb, length, get_or, ℤ, pos, nat_abs, ◌+ℤ◌, ◌≤ℤ◌, Float}
use Rattle.std.proofs.Math.Option.{Option, none, some}
use Rattle.std.specs.Int.Signed.{le_z}
use Rattle.definitions.specs.Lists.{upto, any, total_abs}
use Rattle.definitions.specs.Answers.{Refusal, numbered, stopped_after, number, Answer, done, refused, Row, row, first_refusal, answer_of}
use Rattle.definitions.specs.Mesh.{triangles_length, labels_length, weights_length, coordinates_length, scratch_length, points_length, row3, row4, row5}
use Rattle.definitions.specs.Mesh.{row6, row7or25, row8, fronted}
use Rattle.definitions.specs.Labels.{outer, labels}
use Rattle.definitions.specs.Forward.{weight, forward}
use Rattle.definitions.specs.Backward.{coordinate, backward}
use Rattle.definitions.specs.Repair.{limit, Ending, finished, stopped, out_of_fuel, repair}
use Rattle.definitions.specs.DrawnPoints.{default_scale, effective_scale, scale_allowed, snap_all}

-- ---- the rows

-- 1: n outside 3 to the most that is allowed
unfoldable pub row1 : ℕ → ℕ → Bool
row1 most n = ltb n 3 || ltb most n

abbrev pub most_vertices : ℕ
most_vertices = 4096

-- 2: a slice of another length. A lent slice is told by the length that it has and the one that is wanted.
pub data Slice : Type 0 where
  slice : ℕ → ℕ → Slice

unfoldable pub wrong_length : Slice → Bool
wrong_length (slice has wanted) = not (eqb has wanted)

unfoldable pub row2 : List Slice → Bool
unfolding any wrong_length
row2 slices = any wrong_length slices

-- 21: no triangle has the outer number. It is a place in the list, counted from 0, and there are 2n - 4 triangles.
unfoldable pub row21 : ℕ → ℕ → Bool
row21 n outer_place = leb (2 * n - 4) outer_place

-- 29 (document 02, C-18): a low above its high. Both lists have a number for each inner triangle.
unfoldable pub row29 : List ℤ → List ℤ → Bool
unfolding any upto
row29 lows highs = any (λ k. not (le_z (get_or lows k (pos 0)) (get_or highs k (pos 0)))) (upto (length lows))

-- 3 to 8, each over the whole mesh before the next; 25 stands at the place of 7
unfoldable pub mesh_rows : ℕ → List ℕ → List Row
unfolding row3 row4 row5 row6 row7or25 row8
mesh_rows n ts =
    row 3 (λ _. row3 ts n) ∷ row 4 (λ _. row4 ts) ∷ row 5 (λ _. row5 ts) ∷ row 6 (λ _. row6 ts) ∷ (λ _. row7or25 ts n)
    ∷ row 8 (λ _. row8 ts) ∷ []

-- 9: the weights' absolute values sum past L
unfoldable pub row9 : List ℤ → Bool
unfolding total_abs
row9 ws = ltb limit (total_abs ws)

-- 10: a coordinate beyond -L..L
unfoldable pub row10 : List ℤ → Bool
unfolding any
row10 bs = any (λ b. ltb limit (nat_abs b)) bs

unfoldable pub eq_z : ℤ → ℤ → Bool
eq_z a b = le_z a b && le_z b a

-- vertex i is at (x, y, z)
unfoldable pub has_coordinates : List ℤ → ℕ → ℤ → ℤ → ℤ → Bool
unfolding coordinate eq_z
has_coordinates bs i x y z = eq_z (coordinate bs 0 i) x && eq_z (coordinate bs 1 i) y && eq_z (coordinate bs 2 i) z

-- 11: an outer vertex off its corner; N is b0 of v0
unfoldable pub row11 : List ℕ → List ℤ → Bool
unfolding has_coordinates outer coordinate
row11 ts bs =
    let N = coordinate bs 0 (outer ts 0) in
    let o = pos 0 in
    not (has_coordinates bs (outer ts 0) N o o && has_coordinates bs (outer ts 1) o N o && has_coordinates bs (outer ts 2) o o N)

-- 12: a vertex's sum is not N
unfoldable pub row12 : ℕ → List ℕ → List ℤ → Bool
unfolding outer coordinate eq_z any upto
row12 n ts bs =
    let N = coordinate bs 0 (outer ts 0) in
    any (λ i. not (eq_z (coordinate bs 0 i +ℤ coordinate bs 1 i +ℤ coordinate bs 2 i) N)) (upto n)

-- ---- what stays

-- Scratch holds zeros after every answer but 1 and 2.
unfoldable pub scratch_after : Option Refusal → List ℤ → List ℤ
scratch_after none scratch = map (λ _. pos 0) scratch
scratch_after (some why) scratch = cond (leb (number why) 2) scratch (map (λ _. pos 0) scratch)

-- ---- the calls. In each, `found` is the refusal of the first row that finds something.

-- Every call on a mesh asks 1, 2 (of the triangles, the scratch and its own slices) and 21 first, and then `more`.
unfoldable pub lent_refusal : ℕ → ℕ → List ℕ → List ℤ → List Slice → List Row → Option Refusal
unfolding row1 row2 row21 first_refusal
lent_refusal n outer_place ts scratch slices more =
    let lent = slice (length ts) (triangles_length n) ∷ slice (length scratch) (scratch_length n) ∷ slices in
    first_refusal (row 1 (λ _. row1 most_vertices n) ∷ row 2 (λ _. row2 lent) ∷ row 21 (λ _. row21 n outer_place) ∷ more)

-- In most calls that is 3 to 8, of the mesh with its outer triangle in front, and then the call's own rows.
unfoldable pub call_refusal : ℕ → ℕ → List ℕ → List ℤ → List Slice → List Row → Option Refusal
unfolding lent_refusal mesh_rows fronted
call_refusal n outer_place ts scratch slices own = lent_refusal n outer_place ts scratch slices (mesh_rows n (fronted outer_place ts) ++ own)

-- mesh check
pub record Checked : Type 0 where
  pub answer : Answer (Unit {0})
  pub scratch : List ℤ

unfoldable pub check_call : ℕ → ℕ → List ℕ → List ℤ → Checked
unfolding call_refusal scratch_after
check_call n outer_place ts scratch =
    let found = call_refusal n outer_place ts scratch [] [] in
    record { answer = answer_of tt found; scratch = scratch_after found scratch }

-- In the other calls `mesh` is the mesh with its outer triangle in front: labels and weights follow its order.

-- labels: `ls` is the lent slice that they are written to
pub record Labelled : Type 0 where
  pub answer : Answer (Unit {0})
  pub labels : List ℕ
  pub scratch : List ℤ

unfoldable pub labels_call : ℕ → ℕ → List ℕ → List ℕ → List ℤ → Labelled
unfolding call_refusal fronted scratch_after labels
labels_call n outer_place ts ls scratch =
    let mesh = fronted outer_place ts in
    let found = call_refusal n outer_place ts scratch (slice (length ls) (labels_length n) ∷ []) [] in
    record {
      answer = answer_of tt found;
      labels = elim found [ none ↦ labels n mesh | some why ↦ ls ];
      scratch = scratch_after found scratch;
    }

-- forward: weights in, coordinates written
pub record Forwarded : Type 0 where
  pub answer : Answer (Unit {0})
  pub coordinates : List ℤ
  pub scratch : List ℤ

unfoldable pub forward_call : ℕ → ℕ → List ℕ → List ℤ → List ℤ → List ℤ → Forwarded
unfolding call_refusal fronted row9 scratch_after labels forward
forward_call n outer_place ts ws bs scratch =
    let mesh = fronted outer_place ts in
    let slices = slice (length ws) (weights_length n) ∷ slice (length bs) (coordinates_length n) ∷ [] in
    let found = call_refusal n outer_place ts scratch slices (row 9 (λ _. row9 ws) ∷ []) in
    record {
      answer = answer_of tt found;
      coordinates = elim found [ none ↦ forward n mesh (labels n mesh) ws | some why ↦ bs ];
      scratch = scratch_after found scratch;
    }

-- The range (document 02, C-18): a low and a high weight for each inner triangle in, the low and the high of each coordinate written. 29 is asked ahead of
-- the mesh, 9 of either list.
pub record Ranged : Type 0 where
  pub answer : Answer (Unit {0})
  pub low_coordinates : List ℤ
  pub high_coordinates : List ℤ
  pub scratch : List ℤ

unfoldable pub range_call : ℕ → ℕ → List ℕ → List ℤ → List ℤ → List ℤ → List ℤ → List ℤ → Ranged
unfolding lent_refusal row29 mesh_rows fronted row9 scratch_after labels forward
range_call n outer_place ts lows highs low_bs high_bs scratch =
    let mesh = fronted outer_place ts in
    let weight_slices = slice (length lows) (weights_length n) ∷ slice (length highs) (weights_length n) ∷ [] in
    let coordinate_slices = slice (length low_bs) (coordinates_length n) ∷ slice (length high_bs) (coordinates_length n) ∷ [] in
    let rows = row 29 (λ _. row29 lows highs) ∷ mesh_rows n mesh ++ row 9 (λ _. row9 lows || row9 highs) ∷ [] in
    let found = lent_refusal n outer_place ts scratch (weight_slices ++ coordinate_slices) rows in
    let ls = labels n mesh in
    record {
      answer = answer_of tt found;
      low_coordinates = elim found [ none ↦ forward n mesh ls lows | some why ↦ low_bs ];
      high_coordinates = elim found [ none ↦ forward n mesh ls highs | some why ↦ high_bs ];
      scratch = scratch_after found scratch;
    }

-- backward: coordinates in, weights written
pub record Backwarded : Type 0 where
  pub answer : Answer (Unit {0})
  pub weights : List ℤ
  pub scratch : List ℤ

unfoldable pub backward_call : ℕ → ℕ → List ℕ → List ℤ → List ℤ → List ℤ → Backwarded
unfolding call_refusal fronted row9 row10 row11 row12 scratch_after labels backward
backward_call n outer_place ts bs ws scratch =
    let mesh = fronted outer_place ts in
    let slices = slice (length bs) (coordinates_length n) ∷ slice (length ws) (weights_length n) ∷ [] in
    let new = backward mesh (labels n mesh) bs in
    let own = row 10 (λ _. row10 bs) ∷ row 11 (λ _. row11 mesh bs) ∷ row 12 (λ _. row12 n mesh bs) ∷ row 9 (λ _. row9 new) ∷ [] in
    let found = call_refusal n outer_place ts scratch slices own in
    record {
      answer = answer_of tt found;
      weights = elim found [ none ↦ new | some why ↦ ws ];
      scratch = scratch_after found scratch;
    }

-- Repair: weights in and rewritten, coordinates written; it answers the count of raises. 13 adds the count so far, and leaves the weights as after
-- the last full raise and their coordinates written. (0, no number of the table, stands for the loop's fuel, which never runs out.)
pub record Repaired : Type 0 where
  pub answer : Answer ℕ
  pub weights : List ℤ
  pub coordinates : List ℤ
  pub scratch : List ℤ

unfoldable pub repair_answer : Ending → ℕ → Answer ℕ
repair_answer finished count = done count
repair_answer stopped count = refused (stopped_after count)
repair_answer out_of_fuel count = refused (numbered 0)

unfoldable pub repair_call : ℕ → ℕ → List ℕ → List ℤ → List ℤ → List ℤ → Repaired
unfolding call_refusal fronted row9 scratch_after labels forward repair repair_answer
repair_call n outer_place ts ws bs scratch =
    let mesh = fronted outer_place ts in
    let slices = slice (length ws) (weights_length n) ∷ slice (length bs) (coordinates_length n) ∷ [] in
    let found = call_refusal n outer_place ts scratch slices (row 9 (λ _. row9 ws) ∷ []) in
    let ls = labels n mesh in
    let end = repair n mesh ls ws in
    record {
      answer = elim found [ none ↦ repair_answer end.ending (length end.raises) | some why ↦ refused why ];
      weights = elim found [ none ↦ end.weights | some why ↦ ws ];
      coordinates = elim found [ none ↦ forward n mesh ls end.weights | some why ↦ bs ];
      scratch = scratch_after found scratch;
    }

-- Snapping of a list of points: it does not examine the mesh and takes no scratch.
pub record Snapped : Type 0 where
  pub answer : Answer (Unit {0})
  pub coordinates : List ℤ

-- where scale 0 stands for `usual`
unfoldable pub snap_call_where_zero_is : ℕ → ℕ → List Float → ℕ → List ℤ → Snapped
unfolding row1 row2 first_refusal scale_allowed effective_scale snap_all
snap_call_where_zero_is usual n shares scale bs =
    let lent = slice (length shares) (points_length n) ∷ slice (length bs) (coordinates_length n) ∷ [] in
    let rows = row 1 (λ _. row1 most_vertices n) ∷ row 2 (λ _. row2 lent) ∷ row 14 (λ _. not (scale_allowed scale)) ∷ [] in
    elim (first_refusal rows) [
      | some why ↦ record { answer = refused why; coordinates = bs }
      | none ↦
          elim (snap_all (effective_scale usual scale) shares) [
            | refused why ↦ record { answer = refused why; coordinates = bs }
            | done new ↦ record { answer = done tt; coordinates = new }
          ]
    ]

unfoldable pub snap_call : ℕ → List Float → ℕ → List ℤ → Snapped
unfolding snap_call_where_zero_is
snap_call n shares scale bs = snap_call_where_zero_is default_scale n shares scale bs

-- ---- what is accepted

-- a mesh: the rows 1 to 8 find nothing in it. Which of its triangles is in front makes no difference (crate `theory_sphere`, `accepted_fronted`).
abbrev pub Accepted : ℕ → List ℕ → Type 0
Accepted n ts = (row1 most_vertices n ≡ false) × (length ts ≡ triangles_length n) × (first_refusal (mesh_rows n ts) ≡ none)

-- weights of a mesh on n vertices: 2n - 5 numbers that 9 lets through
abbrev pub AcceptedWeights : ℕ → List ℤ → Type 0
AcceptedWeights n ws = (length ws ≡ weights_length n) × (row9 ws ≡ false)

-- ranges of weights (document 02, C-18): two lists of accepted weights, no low above its high
abbrev pub AcceptedRanges : ℕ → List ℤ → List ℤ → Type 0
AcceptedRanges n lows highs = AcceptedWeights n lows × AcceptedWeights n highs × (row29 lows highs ≡ false)

-- weights within ranges: 2n - 5 numbers, that of each inner triangle from its low to its high
abbrev pub Within : ℕ → List ℤ → List ℤ → List ℤ → Type 0
Within n lows highs ws =
    (length ws ≡ weights_length n) × ((t : ℕ) → 1 ≤ t → t ≤ weights_length n → (weight lows t ≤ℤ weight ws t) × (weight ws t ≤ℤ weight highs t))

-- coordinates of a mesh with labels ls: 3n numbers that 10, 11 and 12 let through and whose weights, by the backward map, 9 lets through
abbrev pub AcceptedCoordinates : ℕ → List ℕ → List ℕ → List ℤ → Type 0
AcceptedCoordinates n ts ls bs =
    (length bs ≡ coordinates_length n) × (row10 bs ≡ false) × (row11 ts bs ≡ false) × (row12 n ts bs ≡ false)
    × (row9 (backward ts ls bs) ≡ false)
