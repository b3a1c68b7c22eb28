-- Bytes copied one by one to the front of a buffer. Assumes nothing.
use Rattle.std.specs.Prelude.{ℕ, suc, ◌+◌, ◌≤◌, ◌<◌, ◌≡◌, refl, List, [], ◌∷◌, ◌++◌, length, get_or, take, drop, set}
use Rattle.std.proofs.Common.{sym, ap, ◌∙◌, append_assoc, arith, add-one, length-set, take-suc, take_all, drop-cons, length-take-le}
use Rattle.std.proofs.lemmas.List.{set_at}
use Rattle.text_model.specs.Writing.{Wrote}

-- i bytes are copied, and the others are as they were
pub record Copied (w old out : List ℕ) (i : ℕ) : Type 0 where
  pub within : i ≤ length w
  pub kept : length out ≡ length old
  pub bytes : out ≡ take i w ++ drop i old

pub copied_none : (w old : List ℕ) → Copied w old old 0
copied_none w old = record { within = omega arith; kept = refl; bytes = refl }

pub copied_more : (w old out : List ℕ) (i : ℕ) → Copied w old out i → i < length w → length w ≤ length old →
    Copied w old (set out i (get_or w i 0)) (i + 1)
copied_more w old out i c h l =
    record {
      within = omega arith;
      kept = simp length-set c.kept;
      bytes =
          ap (λ (o : List ℕ). set o i (get_or w i 0)) (c.bytes ∙ ap (λ (o : List ℕ). take i w ++ o) (drop-cons old i 0 (omega arith)))
          ∙ set_at (take i w) (get_or old i 0) (drop (suc i) old) (get_or w i 0) i (length-take-le i w (omega arith))
          ∙ sym (append_assoc (take i w) (get_or w i 0 ∷ []) (drop (suc i) old))
          ∙ ap (λ (o : List ℕ). o ++ drop (suc i) old) (sym (take-suc w i 0 h))
          ∙ ap (λ (j : ℕ). take j w ++ drop j old) (sym (add-one i));
    }

pub copied_all : (w old out : List ℕ) (i : ℕ) → Copied w old out i → length w ≤ i → Wrote w old out i
copied_all w old out i c l =
    let e : i ≡ length w = omega arith in
    record {
      count = e;
      puts = record {
        bytes = c.bytes ∙ ap (λ (j : ℕ). take j w ++ drop j old) e
            ∙ ap (λ (o : List ℕ). o ++ drop (length w) old) (take_all (length w) w (omega arith));
      };
    }
