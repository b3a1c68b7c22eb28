-- What the end of repair's loop says: this paper's answer for each of its cases. Assumes nothing.
use Rattle.std.specs.Prelude.{ℕ, ◌≡◌, List, length, ℤ, Result, Ok, Err}
use Rattle.std.proofs.Common.{ap, sym, subst, ◌∙◌}
use Rattle.definitions.specs.Forward.{forward}
use Rattle.definitions.specs.Repair.{RepairState, repair}
use Rattle.definitions.specs.Answers.{Answer, done, refused, stopped_after}
use Rattle.definitions.specs.Refusals.{repair_answer}
use Rattle.repair_model.specs.Raise.{Drawn}
use Rattle.repair_loop.specs.declared.Stopped.{Stopped}

-- done with the count of raises, or 13 with the count so far
abbrev pub end_to_answer : Result ℕ Stopped → Answer ℕ
end_to_answer (Ok count) = done count
end_to_answer (Err stop) = refused (stopped_after stop.raises)

-- the answer and the weights are those of the definition, and coordinates 0 and 1 are drawn
pub record Halts (n : ℕ) (ts ls : List ℕ) (ws₀ ws bs : List ℤ) (r : Result ℕ Stopped) : Type 0 where
  pub answer : end_to_answer r ≡ repair_answer (repair n ts ls ws₀).ending (length (repair n ts ls ws₀).raises)
  pub weights : ws ≡ (repair n ts ls ws₀).weights
  pub drawn : Drawn n ts ls (repair n ts ls ws₀).weights bs

-- where the definition's repair ends so, the code's end is its own
pub halts_by : (n : ℕ) (ts ls : List ℕ) (ws₀ ws bs : List ℤ) (r : Result ℕ Stopped) (m : RepairState) → repair n ts ls ws₀ ≡ m →
    end_to_answer r ≡ repair_answer m.ending (length m.raises) → ws ≡ m.weights → Drawn n ts ls m.weights bs → Halts n ts ls ws₀ ws bs r
halts_by n ts ls ws₀ ws bs r m e a w b =
    record {
      answer = a ∙ ap (λ (q : RepairState). repair_answer q.ending (length q.raises)) (sym e);
      weights = w ∙ ap (λ (q : RepairState). q.weights) (sym e);
      drawn = subst (λ (q : RepairState). Drawn n ts ls q.weights bs) (sym e) b;
    }

-- the answer, the weights and the coordinates are those of the definition
pub record Ends (n : ℕ) (ts ls : List ℕ) (ws₀ ws bs : List ℤ) (r : Result ℕ Stopped) : Type 0 where
  pub answer : end_to_answer r ≡ repair_answer (repair n ts ls ws₀).ending (length (repair n ts ls ws₀).raises)
  pub weights : ws ≡ (repair n ts ls ws₀).weights
  pub coordinates : bs ≡ forward n ts ls (repair n ts ls ws₀).weights
