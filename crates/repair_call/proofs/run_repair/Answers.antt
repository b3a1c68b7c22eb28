-- `repair_call::run_repair` meets its contract: each way out is a law of the definition. Assumes nothing.
use Rattle.std.specs.Result.{MatchResult}
use Rattle.std.proofs.Common.{rules, ℕ, ◌≡◌, Ok, Err, Result, refl, sym, ◌∙◌}
use Rattle.mesh_answer.specs.declared.Refusal.{Refusal}
use Rattle.mesh_answer.specs.declared.Refusal.TheVariants as Refused
use Rattle.mesh_answer.specs.Answer.{to_answer}
use Rattle.repair_loop.specs.declared.Stopped.{Stopped}
use Rattle.repair_loop.specs.Answer.{end_to_answer}
use Rattle.labels_call.specs.Labelling.{labelled_accepted}
use Rattle.repair_call.specs.CallOutcomes.{given_refusal, given_9, given_end}
use Rattle.repair_call.proofs.run_repair.Goals as goal

pub returns-in-Err : goal.returns-in-Err
returns-in-Err c = given_refusal _ _ _ _ _ _ c.requires _ _ c.in-Err.ensures refl

pub returns-then-past_limit : goal.returns-then-past_limit
returns-then-past_limit c =
    let A = labelled_accepted _ _ _ c.label_mesh.new.scratch c.label_mesh.result c.in_default.is c.label_mesh.ensures in
    given_9 _ _ _ _ _ _ c.requires A.rows (cc)

-- how the loop ends, as the call answers it
answers : (r : Result ℕ Stopped) (q : Result ℕ Refusal) → MatchResult r (λ x. q ≡ Ok x) (λ s. q ≡ Err (Refused.Stopped s.raises))
    → end_to_answer r ≡ to_answer q
answers (Ok x) q e = rw e refl
answers (Err s) q e = rw e refl

pub returns : goal.returns
returns c =
    let A = labelled_accepted _ _ _ c.label_mesh.new.scratch c.label_mesh.result c.in_default.is c.label_mesh.ensures in
    let same : MatchResult c.repair_labelled.result (λ x. c.map_err.result ≡ Ok x) (λ s. c.map_err.result ≡ Err (Refused.Stopped s.raises)) =
    search rules in
    rw (← answers c.repair_labelled.result c.map_err.result same)
    (given_end _ _ _ _ _ _ c.requires A.rows (sym c.past_limit.ensures ∙ c.if-past_limit.false) _ _ _ (c.repair_labelled.ensures _ _ A.peeled))
