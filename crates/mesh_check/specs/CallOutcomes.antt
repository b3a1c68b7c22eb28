-- What the mesh check answers and leaves, for each way that it can end: the equations of `check_call`. Assumes nothing.
use Rattle.std.specs.Prelude.{ℕ, ◌≡◌, length, ℤ, pos, Result, Ok, Err}
use Rattle.std.proofs.Common.{sym, ◌∙◌}
use Rattle.std.proofs.Math.Path.{ap}
use mathlib.Core.List.{List, [], map}
use Rattle.std.proofs.Math.Option.{Option, none, some}
use Rattle.definitions.specs.Answers.{Answer, refused, numbered, Refusal, first_refusal, answer_of}
use Rattle.definitions.specs.Refusals.{scratch_after, call_refusal, check_call}
use Rattle.theory_sphere.specs.FirstRefusal.{only_none, lent, call_refusal-mesh, call_refusal-own}
use Rattle.lent_slices.specs.Lengths.{first_rows}
use Rattle.lent_slices.specs.Calls.{Fits, early_found, Late, zeros, cleared}
use Rattle.mesh_answer.specs.Answer.{to_refusal, to_answer}
use Rattle.mesh_answer.specs.declared.Refusal.{Refusal as Why}
use Rattle.mesh_check.specs.Stages.{Examined, accepted_none}

module _ (n outer_place : ℕ) (ts : List ℕ) (scratch : List ℤ) where
  -- the answer and the scratch are the definition's
  abbrev pub Gives : Answer (Unit {0}) → List ℤ → Type 0
  Gives a s = (a ≡ (check_call n outer_place ts scratch).answer) × (s ≡ (check_call n outer_place ts scratch).scratch)

  given : (found : Option Refusal) → call_refusal n outer_place ts scratch [] [] ≡ found → Gives (answer_of tt found) (scratch_after found scratch)
  unfolding check_call
  given found e = (ap (answer_of tt) (sym e), ap (λ (f : Option Refusal). scratch_after f scratch) (sym e))

  -- 1 and 2
  pub gives_early : (r : ℕ) → r ≡ first_rows n (lent n ts scratch []) → (r ≡ 0 → ⊥) → Gives (refused (numbered r)) scratch
  gives_early r e f =
      let g = early_found n ts scratch [] r e outer_place [] f in
      let h = given (some (numbered r)) g.0 in
      (h.0, sym g.1 ∙ h.1)

  -- 21, 3 to 8, or nothing
  module _ (F : Fits n ts scratch []) where
    answers : (s : List ℤ) (a : Result (Unit {0}) Why) → Examined n outer_place ts s a → to_answer a ≡ (check_call n outer_place ts scratch).answer
    unfolding first_refusal
    answers s (Ok x) S = (given none (call_refusal-own n outer_place ts scratch [] [] F.size F.lengths (accepted_none S))).0
    answers s (Err why) S =
        (given (some (to_refusal why)) (call_refusal-mesh n outer_place ts scratch [] [] (to_refusal why) F.size F.lengths S)).0

    pub gives_examined : (s z : List ℤ) (a : Result (Unit {0}) Why) → Examined n outer_place ts s a → length s ≡ length scratch → z ≡ map (λ _. pos 0) s
        → Gives (to_answer a) z
    unfolding check_call
    gives_examined s z a S l e = (answers s a S, e ∙ cleared scratch s l ∙ zeros n outer_place ts scratch [] [] (only_none Late) F)
