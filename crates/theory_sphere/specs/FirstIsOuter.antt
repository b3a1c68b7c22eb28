-- The calls on a mesh as they stood before C-12, when the first triangle was the outer one. With the outer number 0 each call is what it was, for every n
-- and all slices: its answer, and what each slice holds at the end. With another that 21 lets through, it is what it was with that triangle moved to the
-- front. That the mesh check does not depend on the outer number is in proofs/FirstIsOuter. Assumes nothing.
use Rattle.std.specs.Prelude.{ℕ, ◌-◌, ◌*◌, ◌<◌, ◌≡◌, ◌⊎◌, true, false, ℤ, length}
use Rattle.std.proofs.Common.{subst, arith}
use Rattle.std.proofs.Math.Logic.{inl, inr}
use mathlib.Core.List.{List, [], ◌∷◌, ◌++◌}
use Rattle.std.proofs.Math.Option.{Option, none, some}
use Rattle.definitions.specs.Answers.{Refusal, refused, Row, row, first_refusal, answer_of}
use Rattle.definitions.specs.Mesh.{labels_length, weights_length, coordinates_length, fronted}
use Rattle.definitions.specs.Labels.{labels}
use Rattle.definitions.specs.Forward.{forward}
use Rattle.definitions.specs.Backward.{backward}
use Rattle.definitions.specs.Repair.{repair}
use Rattle.definitions.specs.Refusals.{row1, row2, row21, row9, row10, row11, row12, most_vertices, Slice, slice, mesh_rows, scratch_after}
use Rattle.definitions.specs.Refusals.{Checked, check_call, Labelled, labels_call, Forwarded, forward_call, Backwarded, backward_call, Repaired}
use Rattle.definitions.specs.Refusals.{repair_answer, repair_call, lent_refusal, call_refusal}
use Rattle.laws.specs.Lists.{tested}
use Rattle.theory_sphere.specs.Fronted.{fronted-0, length-fronted}
use Rattle.theory_sphere.specs.FirstRefusal.{lent, row21_means}
use Rattle.theory_sphere.specs.Accept.{row1-range}

-- ---- as they stood

unfoldable pub call_refusal_before : ℕ → List ℕ → List ℤ → List Slice → List Row → Option Refusal
call_refusal_before n ts scratch slices own =
    first_refusal (row 1 (λ _. row1 most_vertices n) ∷ row 2 (λ _. row2 (lent n ts scratch slices)) ∷ mesh_rows n ts ++ own)

unfoldable pub check_call_before : ℕ → List ℕ → List ℤ → Checked
check_call_before n ts scratch =
    let found = call_refusal_before n ts scratch [] [] in
    record { answer = answer_of tt found; scratch = scratch_after found scratch }

unfoldable pub labels_call_before : ℕ → List ℕ → List ℕ → List ℤ → Labelled
labels_call_before n ts ls scratch =
    let found = call_refusal_before n ts scratch (slice (length ls) (labels_length n) ∷ []) [] in
    record {
      answer = answer_of tt found;
      labels = elim found [ none ↦ labels n ts | some why ↦ ls ];
      scratch = scratch_after found scratch;
    }

unfoldable pub forward_call_before : ℕ → List ℕ → List ℤ → List ℤ → List ℤ → Forwarded
forward_call_before n ts ws bs scratch =
    let slices = slice (length ws) (weights_length n) ∷ slice (length bs) (coordinates_length n) ∷ [] in
    let found = call_refusal_before n ts scratch slices (row 9 (λ _. row9 ws) ∷ []) in
    record {
      answer = answer_of tt found;
      coordinates = elim found [ none ↦ forward n ts (labels n ts) ws | some why ↦ bs ];
      scratch = scratch_after found scratch;
    }

unfoldable pub backward_call_before : ℕ → List ℕ → List ℤ → List ℤ → List ℤ → Backwarded
backward_call_before n ts bs ws scratch =
    let slices = slice (length bs) (coordinates_length n) ∷ slice (length ws) (weights_length n) ∷ [] in
    let new = backward ts (labels n ts) bs in
    let own = row 10 (λ _. row10 bs) ∷ row 11 (λ _. row11 ts bs) ∷ row 12 (λ _. row12 n ts bs) ∷ row 9 (λ _. row9 new) ∷ [] in
    let found = call_refusal_before n ts scratch slices own in
    record {
      answer = answer_of tt found;
      weights = elim found [ none ↦ new | some why ↦ ws ];
      scratch = scratch_after found scratch;
    }

unfoldable pub repair_call_before : ℕ → List ℕ → List ℤ → List ℤ → List ℤ → Repaired
repair_call_before n ts ws bs scratch =
    let slices = slice (length ws) (weights_length n) ∷ slice (length bs) (coordinates_length n) ∷ [] in
    let found = call_refusal_before n ts scratch slices (row 9 (λ _. row9 ws) ∷ []) in
    let ls = labels n ts in
    let end = repair n ts ls ws in
    record {
      answer = elim found [ none ↦ repair_answer end.ending (length end.raises) | some why ↦ refused why ];
      weights = elim found [ none ↦ end.weights | some why ↦ ws ];
      coordinates = elim found [ none ↦ forward n ts ls end.weights | some why ↦ bs ];
      scratch = scratch_after found scratch;
    }

-- ---- and now

-- With the triangle at `outer_place` for the outer one, each call on `ts` is what it was then on `mesh`.
pub record AsItWas (n outer_place : ℕ) (ts mesh : List ℕ) : Type 0 where
  pub check : (scratch : List ℤ) → check_call n outer_place ts scratch ≡ check_call_before n mesh scratch
  pub labels : (ls : List ℕ) (scratch : List ℤ) → labels_call n outer_place ts ls scratch ≡ labels_call_before n mesh ls scratch
  pub forward : (ws bs scratch : List ℤ) → forward_call n outer_place ts ws bs scratch ≡ forward_call_before n mesh ws bs scratch
  pub backward : (bs ws scratch : List ℤ) → backward_call n outer_place ts bs ws scratch ≡ backward_call_before n mesh bs ws scratch
  pub repair : (ws bs scratch : List ℤ) → repair_call n outer_place ts ws bs scratch ≡ repair_call_before n mesh ws bs scratch

module _ (n p : ℕ) (ts : List ℕ) (passes : (row1 most_vertices n ≡ true) ⊎ (row21 n p ≡ false)) where
  -- where 21 is not asked, or finds nothing
  found_before : (scratch : List ℤ) (slices : List Slice) (own : List Row) →
      call_refusal n p ts scratch slices own ≡ call_refusal_before n (fronted p ts) scratch slices own
  unfolding call_refusal lent_refusal call_refusal_before first_refusal
  found_before scratch slices own = elim passes [ inl t ↦ rw t | inr t ↦ rw (t, length-fronted p ts) ]

  fronted_calls : AsItWas n p ts (fronted p ts)
  unfolding check_call check_call_before labels_call labels_call_before forward_call forward_call_before backward_call backward_call_before repair_call repair_call_before
  fronted_calls =
      record {
        check = λ scratch. rw found_before;
        labels = λ ls scratch. rw found_before;
        forward = λ ws bs scratch. rw found_before;
        backward = λ bs ws scratch. rw found_before;
        repair = λ ws bs scratch.
            let slices = slice (length ws) (weights_length n) ∷ slice (length bs) (coordinates_length n) ∷ [] in
            rw (found_before scratch slices (row 9 (λ _. row9 ws) ∷ []));
      }

-- Each call with an outer number is what it was on the mesh with that triangle moved to the front.
pub as_fronted : (n p : ℕ) (ts : List ℕ) → p < 2 * n - 4 → AsItWas n p ts (fronted p ts)
as_fronted n p ts there = fronted_calls n p ts (inr ((row21_means n p).1 there))

-- With the outer number 0 each call is what it was. (n below 3 is refused by 1, and from 3 on there is a first triangle.)
pub as_it_was : (n : ℕ) (ts : List ℕ) → AsItWas n 0 ts ts
as_it_was n ts =
    subst (AsItWas n 0 ts) (fronted-0 ts) (fronted_calls n 0 ts (elim (tested (row1 most_vertices n)) [
      | inl t ↦ inl t
      | inr t ↦ inr ((row21_means n 0).1 (omega (arith, row1-range most_vertices n t)))
    ]))
