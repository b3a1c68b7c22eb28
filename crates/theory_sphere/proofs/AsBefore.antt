-- Row 7 as it stood before C-15. A mesh is refused with 7 or 25 just where it was refused with 7 then, and every other answer is the same: acceptance does
-- not move. Assumes nothing.
use Rattle.std.specs.Prelude.{ℕ, ◌≡◌, refl, ◌↔◌, false, List}
use Rattle.std.proofs.Common.{sym, ◌∙◌}
use Rattle.std.proofs.Math.Path.{ap}
use Rattle.std.proofs.Math.Logic.{inl, inr}
use Rattle.std.proofs.Math.Bool.{true, not}
use Rattle.std.proofs.Math.Option.{Option, none, some, some-ne-none}
use borrow.Author.Tests.{not-false}
use Rattle.definitions.specs.Answers.{Refusal, numbered, first_refusal}
use Rattle.definitions.specs.Mesh.{outgoing, ring, row3, row4, row5, row6, row7or25, row8}
use Rattle.definitions.specs.Refusals.{mesh_rows}
use Rattle.laws.specs.Lists.{tested, unfalse, upto-none, none-upto}
use Rattle.theory_sphere.specs.Vertices.{found-lowest, row7or25_means}
use Rattle.theory_sphere.specs.FirstRefusal.{asked}
use Rattle.theory_sphere.specs.AsBefore.{row7_before, mesh_rows_before, answered_before, found_before}

module _ (n : ℕ) (ts : List ℕ) where
  -- the row finds nothing just where it found nothing then
  pub row7_before_lem : (row7or25 ts n ≡ none) ↔ (row7_before ts n ≡ false)
  unfolding row7_before
  row7_before_lem = (
    λ e. none-upto (λ v. not (ring ts (outgoing ts v))) n (λ v h. ap not ((row7or25_means ts n).0 e v h)),
    λ e. (row7or25_means ts n).1 (λ v h. not-false (ring ts (outgoing ts v)) (upto-none (λ v. not (ring ts (outgoing ts v))) n e v h)),
  )

  -- the rows of a mesh found then what they find now, with 7 in place of 25 and without the vertex
  pub refusal-before : first_refusal (mesh_rows_before n ts) ≡ found_before (first_refusal (mesh_rows n ts))
  unfolding first_refusal mesh_rows mesh_rows_before
  refusal-before =
      elim (tested (row3 ts n)) [
        | inl t ↦ rw t
        | inr n3 ↦ elim (tested (row4 ts)) [
          | inl t ↦ rw (n3, t)
          | inr n4 ↦ elim (tested (row5 ts)) [
            | inl t ↦ rw (n3, n4, t)
            | inr n5 ↦ elim (tested (row6 ts)) [
              | inl t ↦ rw (n3, n4, n5, t)
              | inr n6 ↦ elim (asked (row7or25 ts n)) [
                | inl q ↦ rw (n3, n4, n5, n6, row7_before_lem.0 q, q) (elim (tested (row8 ts)) [ inl t ↦ rw t | inr t ↦ rw t ])
                | inr q ↦ rw (n3, n4, n5, n6, found_then q.0 q.1, q.1) (ap some (sym (seven q.0 q.1)))
              ]
            ]
          ]
        ]
      ]
    where
      found_then : (why : Refusal) → row7or25 ts n ≡ some why → row7_before ts n ≡ true
      found_then why e = unfalse (row7_before ts n) (λ f. some-ne-none why (sym e ∙ row7_before_lem.1 f))

      seven : (why : Refusal) → row7or25 ts n ≡ some why → answered_before why ≡ numbered 7
      seven why e = elim (found-lowest ts n why e).3 [ inl s ↦ ap answered_before s.0 | inr s ↦ ap answered_before s.0 ]

  -- so a mesh is accepted just where it was accepted then
  pub accepted_before : (first_refusal (mesh_rows n ts) ≡ none) ↔ (first_refusal (mesh_rows_before n ts) ≡ none)
  accepted_before = (λ e. refusal-before ∙ ap found_before e, λ e. go (first_refusal (mesh_rows n ts)) refl (sym refusal-before ∙ e))
    where
      go : (o : Option Refusal) → first_refusal (mesh_rows n ts) ≡ o → found_before (first_refusal (mesh_rows n ts)) ≡ none →
          first_refusal (mesh_rows n ts) ≡ none
      go none q e = q
      go (some why) q e = absurd (some-ne-none (answered_before why) (sym (ap found_before q) ∙ e))
