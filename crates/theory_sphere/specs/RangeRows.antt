-- The rows of the range call (document 02, C-18): 1, 2, 21, 29, 3 to 8, 9. What they find, way by way, and what the call then answers and leaves.
-- Assumes nothing.
use Rattle.std.specs.Prelude.{ℕ, ◌≡◌, true, false, ◌||◌, length, ℤ}
use Rattle.std.proofs.Common.{sym, ◌∙◌}
use Rattle.std.proofs.Math.Path.{ap}
use mathlib.Core.List.{List, [], ◌∷◌, ◌++◌}
use Rattle.std.proofs.Math.Option.{Option, none, some}
use Rattle.definitions.specs.Answers.{Refusal, numbered, Row, row, first_refusal, answer_of}
use Rattle.definitions.specs.Mesh.{weights_length, coordinates_length, fronted}
use Rattle.definitions.specs.Labels.{labels}
use Rattle.definitions.specs.Forward.{forward}
use Rattle.definitions.specs.Refusals.{most_vertices, row1, row2, row9, row21, row29, Slice, slice, mesh_rows, scratch_after, lent_refusal, range_call}
use Rattle.definitions.specs.Refusals.{Accepted, AcceptedRanges}
use Rattle.laws.specs.Lists.{or_neither}
use Rattle.theory_sphere.specs.Fronted.{length-fronted}
use Rattle.theory_sphere.specs.FirstRefusal.{row-found, row_passed, row-none, refusal-found, refusal_passed, refusal-cons, refusal-more}
use Rattle.theory_sphere.specs.FirstRefusal.{refusal-first, refusal-both, rim_rows, rim-mesh, row2-cons, lent, lent_refusal-rest, lent_refusal-none}

-- the slices that it has besides the triangles and the scratch: two lists of weights, two of coordinates, by their lengths
abbrev pub coordinate_slices : ℕ → ℕ → ℕ → List Slice
coordinate_slices n b b' = slice b (coordinates_length n) ∷ slice b' (coordinates_length n) ∷ []

abbrev pub range_slices : ℕ → ℕ → ℕ → ℕ → ℕ → List Slice
range_slices n w w' b b' = slice w (weights_length n) ∷ slice w' (weights_length n) ∷ coordinate_slices n b b'

module _ (n outer_place : ℕ) (ts : List ℕ) (lows highs low_bs high_bs scratch : List ℤ) where
  abbrev mesh : List Row
  mesh = mesh_rows n (fronted outer_place ts)

  abbrev nine : Row
  nine = row 9 (λ _. row9 lows || row9 highs)

  abbrev twenty_one : Row
  twenty_one = row 21 (λ _. row21 n outer_place)

  abbrev twenty_nine : Row
  twenty_nine = row 29 (λ _. row29 lows highs)

  -- the rows after 21
  abbrev pub range_rows : List Row
  range_rows = twenty_nine ∷ mesh ++ nine ∷ []

  abbrev slices : List Slice
  slices = range_slices n (length lows) (length highs) (length low_bs) (length high_bs)

  abbrev pub range_found : Option Refusal
  range_found = lent_refusal n outer_place ts scratch slices range_rows

  -- what is left of the coordinates bs where the weights are ws
  abbrev pub kept_range : List ℤ → List ℤ → Option Refusal → List ℤ
  kept_range ws bs found = elim found [ none ↦ forward n (fronted outer_place ts) (labels n (fronted outer_place ts)) ws | some why ↦ bs ]

  -- the whole outcome, by what is found
  pub record RangeOutcome (found : Option Refusal) : Type 0 where
    pub answer : (range_call n outer_place ts lows highs low_bs high_bs scratch).answer ≡ answer_of tt found
    pub low : (range_call n outer_place ts lows highs low_bs high_bs scratch).low_coordinates ≡ kept_range lows low_bs found
    pub high : (range_call n outer_place ts lows highs low_bs high_bs scratch).high_coordinates ≡ kept_range highs high_bs found
    pub scratch_left : (range_call n outer_place ts lows highs low_bs high_bs scratch).scratch ≡ scratch_after found scratch

  pub range-outcome : (found : Option Refusal) → range_found ≡ found → RangeOutcome found
  unfolding range_call
  range-outcome found e = record {
    answer = ap (answer_of tt) e;
    low = ap (kept_range lows low_bs) e;
    high = ap (kept_range highs high_bs) e;
    scratch_left = ap (λ (o : Option Refusal). scratch_after o scratch) e;
  }

  -- rows 1 and 2 find nothing
  module _ (size : row1 most_vertices n ≡ false) (lengths : row2 (lent n ts scratch slices) ≡ false) where
    pub range-21 : row21 n outer_place ≡ true → range_found ≡ some (numbered 21)
    range-21 e =
        lent_refusal-rest n outer_place ts scratch slices range_rows size lengths
        ∙ refusal-found twenty_one range_rows (numbered 21) (row-found 21 (λ _. row21 n outer_place) e)

    -- nor does 21
    module _ (there : row21 n outer_place ≡ false) where
      past_21 : range_found ≡ first_refusal range_rows
      past_21 =
          lent_refusal-rest n outer_place ts scratch slices range_rows size lengths
          ∙ refusal_passed twenty_one range_rows (row_passed 21 (λ _. row21 n outer_place) there)

      pub range-29 : row29 lows highs ≡ true → range_found ≡ some (numbered 29)
      range-29 e = past_21 ∙ refusal-found twenty_nine (mesh ++ nine ∷ []) (numbered 29) (row-found 29 (λ _. row29 lows highs) e)

      -- nor 29
      module _ (ordered : row29 lows highs ≡ false) where
        past_29 : range_found ≡ first_refusal (mesh ++ nine ∷ [])
        past_29 = past_21 ∙ refusal_passed twenty_nine (mesh ++ nine ∷ []) (row_passed 29 (λ _. row29 lows highs) ordered)

        pub range-mesh : (why : Refusal) → first_refusal (rim_rows n outer_place ts) ≡ some why → range_found ≡ some why
        range-mesh why e = past_29 ∙ refusal-first mesh (nine ∷ []) why (sym (rim-mesh n outer_place ts there) ∙ e)

        -- nor those of the mesh
        module _ (clean : first_refusal (rim_rows n outer_place ts) ≡ none) where
          past_mesh : range_found ≡ first_refusal (nine ∷ [])
          past_mesh = past_29 ∙ refusal-more mesh (nine ∷ []) (sym (rim-mesh n outer_place ts there) ∙ clean)

          pub range-9 : (row9 lows || row9 highs) ≡ true → range_found ≡ some (numbered 9)
          range-9 e = past_mesh ∙ refusal-found nine [] (numbered 9) (row-found 9 (λ _. row9 lows || row9 highs) e)

          pub range_none : (row9 lows || row9 highs) ≡ false → range_found ≡ none
          unfolding first_refusal
          range_none e = past_mesh ∙ refusal_passed nine [] (row_passed 9 (λ _. row9 lows || row9 highs) e)

  -- Where nothing is found the mesh and the ranges are accepted.
  pub range_accepted : range_found ≡ none → Accepted n (fronted outer_place ts) × AcceptedRanges n lows highs
  range_accepted e =
      let r = lent_refusal-none n outer_place ts scratch slices range_rows e in
      let s = refusal-cons twenty_nine (mesh ++ nine ∷ []) r.5 in
      let b = refusal-both mesh (nine ∷ []) s.1 in
      let small = or_neither (row9 lows) (row9 highs) (row-none 9 (λ _. row9 lows || row9 highs) (refusal-cons nine [] b.1).0) in
      let places = coordinate_slices n (length low_bs) (length high_bs) in
      let l = (row2-cons (length lows) (weights_length n) (slice (length highs) (weights_length n) ∷ places)).0 r.3 in
      let h = (row2-cons (length highs) (weights_length n) places).0 l.1 in (
        (r.0, length-fronted outer_place ts ∙ r.1, b.0),
        ((l.0, small.0), (h.0, small.1), row-none 29 (λ _. row29 lows highs) s.0),
      )
