-- What the repair call answers and leaves, for each way that it can end: the equations of `repair_call`. Assumes nothing.
use Rattle.std.specs.Prelude.{ℕ, ◌≡◌, true, false, length, ℤ, pos, Result}
use Rattle.std.proofs.Common.{sym, ◌∙◌, arith}
use Rattle.std.proofs.Math.Path.{ap}
use mathlib.Core.List.{List, [], ◌∷◌, map}
use Rattle.std.proofs.Math.Option.{Option, none, some}
use Rattle.definitions.specs.Mesh.{weights_length, coordinates_length, fronted}
use Rattle.definitions.specs.Answers.{Answer, refused, numbered, Refusal, Row, row, first_refusal}
use Rattle.definitions.specs.Labels.{labels}
use Rattle.definitions.specs.Forward.{forward}
use Rattle.definitions.specs.Repair.{repair}
use Rattle.definitions.specs.Refusals.{row9, Slice, slice, scratch_after, call_refusal, repair_answer, repair_call}
use Rattle.theory_sphere.specs.FirstRefusal.{row-found, row_passed, refusal-found, refusal_passed, rim_rows, call_refusal-mesh, call_refusal-own}
use Rattle.labels_tables.specs.LabelledTables.{Peeled}
use Rattle.lent_slices.specs.Lengths.{first_rows}
use Rattle.lent_slices.specs.Calls.{Fits, early_found, Late, rim_late, late_zeros, cleared}
use Rattle.lent_slices.specs.MapLengths.{Lengths, forward_slices, forward_fits}
use Rattle.repair_loop.specs.declared.Stopped.{Stopped}
use Rattle.repair_loop.specs.Answer.{end_to_answer, Ends}
use Rattle.repair_loop.specs.Start.{StartPre}

-- the answer, the weights and the coordinates are the definition's, which leaves zeros in scratch
pub record Given (n outer_place : ℕ) (ts : List ℕ) (ws bs scratch : List ℤ) (a : Answer ℕ) (ws' bs' : List ℤ) : Type 0 where
  pub answer : a ≡ (repair_call n outer_place ts ws bs scratch).answer
  pub weights : ws' ≡ (repair_call n outer_place ts ws bs scratch).weights
  pub coordinates : bs' ≡ (repair_call n outer_place ts ws bs scratch).coordinates
  pub zeros : map (λ _. pos 0) scratch ≡ (repair_call n outer_place ts ws bs scratch).scratch

module _ (n outer_place : ℕ) (ts : List ℕ) (ws bs scratch : List ℤ) where
  -- the mesh as it is read
  abbrev mesh : List ℕ
  mesh = fronted outer_place ts

  -- the answer and the buffers that go with what is found
  abbrev pub Gives : Answer ℕ → List ℤ → List ℤ → List ℤ → Type 0
  Gives a w b s =
      (a ≡ (repair_call n outer_place ts ws bs scratch).answer)
      × ((w ≡ (repair_call n outer_place ts ws bs scratch).weights) × ((b ≡ (repair_call n outer_place ts ws bs scratch).coordinates)
      × (s ≡ (repair_call n outer_place ts ws bs scratch).scratch)))

  abbrev slices : List Slice
  slices = slice (length ws) (weights_length n) ∷ slice (length bs) (coordinates_length n) ∷ []

  abbrev nine : Row
  nine = row 9 (λ _. row9 ws)

  abbrev own : List Row
  own = nine ∷ []

  abbrev answer_of : Option Refusal → Answer ℕ
  answer_of found =
      elim found [
        | none ↦ repair_answer (repair n mesh (labels n mesh) ws).ending (length (repair n mesh (labels n mesh) ws).raises)
        | some why ↦ refused why
      ]

  abbrev weights_of : Option Refusal → List ℤ
  weights_of found = elim found [ none ↦ (repair n mesh (labels n mesh) ws).weights | some why ↦ ws ]

  abbrev coordinates_of : Option Refusal → List ℤ
  coordinates_of found = elim found [ none ↦ forward n mesh (labels n mesh) (repair n mesh (labels n mesh) ws).weights | some why ↦ bs ]

  given : (found : Option Refusal) → call_refusal n outer_place ts scratch slices own ≡ found →
      Gives (answer_of found) (weights_of found) (coordinates_of found) (scratch_after found scratch)
  unfolding repair_call
  given found e = (
    ap answer_of (sym e),
    (ap weights_of (sym e), (ap coordinates_of (sym e), ap (λ (f : Option Refusal). scratch_after f scratch) (sym e))),
  )

  -- 1 and 2
  pub gives_early : (r : ℕ) → r ≡ first_rows n (forward_slices n (length ts) (length scratch) (length ws) (length bs)) → (r ≡ 0 → ⊥)
      → Gives (refused (numbered r)) ws bs scratch
  gives_early r e f =
      let g = early_found n ts scratch slices r e outer_place own f in
      let h = given (some (numbered r)) g.0 in
      (h.0, (h.1.0, (h.1.1.0, sym g.1 ∙ h.1.1.1)))

  -- 21, 3 to 9, or nothing
  module _ (L : Lengths n (length ts) (length scratch) (length ws) (length bs)) where
    fits : Fits n ts scratch slices
    fits = forward_fits n ts scratch (length ws) (length bs) L

    -- a row with a number from 3 on
    given_row : (why : Refusal) → Late why → call_refusal n outer_place ts scratch slices own ≡ some why →
        Given n outer_place ts ws bs scratch (refused why) ws bs
    given_row why l e =
        let g = given (some why) e in
        record { answer = g.0; weights = g.1.0; coordinates = g.1.1.0; zeros = sym (late_zeros why scratch l) ∙ g.1.1.1 }

    pub given_refusal : (why told : Refusal) → first_refusal (rim_rows n outer_place ts) ≡ some why → told ≡ why →
        Given n outer_place ts ws bs scratch (refused told) ws bs
    given_refusal why told S e =
        rw e (given_row why (rim_late n outer_place ts why S) (call_refusal-mesh n outer_place ts scratch slices own why fits.size fits.lengths S))

    -- on an accepted mesh
    module _ (A : first_refusal (rim_rows n outer_place ts) ≡ none) where
      on-mesh : call_refusal n outer_place ts scratch slices own ≡ first_refusal own
      on-mesh = call_refusal-own n outer_place ts scratch slices own fits.size fits.lengths A

      pub given_9 : row9 ws ≡ true → Given n outer_place ts ws bs scratch (refused (numbered 9)) ws bs
      given_9 e = given_row (numbered 9) (omega arith) (on-mesh ∙ refusal-found nine [] (numbered 9) (row-found 9 (λ _. row9 ws) e))

      pub given_end : row9 ws ≡ false → (end : Result ℕ Stopped) (ws' bs' : List ℤ) → Ends n mesh (labels n mesh) ws ws' bs' end →
          Given n outer_place ts ws bs scratch (end_to_answer end) ws' bs'
      unfolding scratch_after first_refusal
      given_end e end ws' bs' E =
          let g = given none (on-mesh ∙ refusal_passed nine [] (row_passed 9 (λ _. row9 ws) e)) in
          record { answer = E.answer ∙ g.0; weights = E.weights ∙ g.1.0; coordinates = E.coordinates ∙ g.1.1.0; zeros = g.1.1.1 }

  -- what the loop is called for
  pub startable : (s : List ℤ) → Lengths n (length ts) (length scratch) (length ws) (length bs) → row9 ws ≡ false → Peeled n mesh (labels n mesh) s
      → StartPre n ws bs s
  startable s L light P =
      record { triangles = mesh; labels = labels n mesh; peeled = P; weights = L.weights; light = light; coordinates = L.coordinates }

  -- the whole call
  pub gives_run : (a : Answer ℕ) (ws' bs' : List ℤ) → Given n outer_place ts ws bs scratch a ws' bs' → (s z : List ℤ) → length s ≡ length scratch →
      z ≡ map (λ _. pos 0) s → Gives a ws' bs' z
  gives_run a ws' bs' G s z e f = (G.answer, (G.weights, (G.coordinates, f ∙ cleared scratch s e ∙ G.zeros)))
