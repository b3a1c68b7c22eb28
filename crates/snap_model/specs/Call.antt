-- The snapping call in two parts: which of its rows finds something, and what comes of it. Assumes nothing.
use Rattle.std.specs.Prelude.{ℕ, ◌≡◌, refl, Bool, not, List, [], ◌∷◌, ℤ, Float, length}
use Rattle.std.proofs.Math.Option.{Option, none, some}
use Rattle.definitions.specs.Answers.{Refusal, Answer, done, refused, row, first_refusal}
use Rattle.definitions.specs.Mesh.{points_length, coordinates_length}
use Rattle.definitions.specs.DrawnPoints.{effective_scale, scale_allowed, snap_all}
use Rattle.definitions.specs.Refusals.{row1, row2, most_vertices, Slice, slice, Snapped, snap_call_where_zero_is}

-- the slices that are lent
abbrev pub slices : ℕ → List Float → List ℤ → List Slice
slices n shares bs = slice (length shares) (points_length n) ∷ slice (length bs) (coordinates_length n) ∷ []

-- the first of three rows that finds something, and what comes of it
unfoldable pub found : Bool → Bool → Bool → Option Refusal
unfolding first_refusal
found a b c = first_refusal (row 1 (λ _. a) ∷ row 2 (λ _. b) ∷ row 14 (λ _. c) ∷ [])

unfoldable pub outcome : Option Refusal → Answer (List ℤ) → List ℤ → Snapped
outcome f w bs =
    elim f [
      | some why ↦ record { answer = refused why; coordinates = bs }
      | none ↦
          elim w [
            | refused why ↦ record { answer = refused why; coordinates = bs }
            | done new ↦ record { answer = done tt; coordinates = new }
          ]
    ]

-- the call, in these words
pub call : (usual n : ℕ) (shares : List Float) (scale : ℕ) (bs : List ℤ)
    → snap_call_where_zero_is usual n shares scale bs
    ≡ outcome (found (row1 most_vertices n) (row2 (slices n shares bs)) (not (scale_allowed scale))) (snap_all (effective_scale usual scale) shares) bs
unfolding snap_call_where_zero_is found outcome
call usual n shares scale bs = refl
