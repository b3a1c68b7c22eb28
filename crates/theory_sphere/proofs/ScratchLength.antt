-- Row 2 asks one thing of scratch, its length: a call finds the same with the 24n words that were asked for before C-20 and with 10n. Assumes nothing.
use Rattle.std.specs.Prelude.{ℕ, ◌*◌, ◌≡◌, List, ℤ, length}
use Rattle.std.proofs.Common.{sym, ◌∙◌}
use Rattle.definitions.specs.Answers.{Row}
use Rattle.definitions.specs.Refusals.{Slice, call_refusal}
use Rattle.theory_sphere.specs.ScratchLength.{found_asking, asks_10n, length_alone}

module _ (n outer_place : ℕ) (ts : List ℕ) (slices : List Slice) (own : List Row) where
  -- so nothing moved with C-20 but the length
  pub found_before : (before now : List ℤ) → length before ≡ 24 * n → length now ≡ 10 * n →
      found_asking n outer_place ts slices own (24 * n) before ≡ call_refusal n outer_place ts now slices own
  found_before before now e f =
      length_alone n outer_place ts slices own (24 * n) before e ∙ sym (length_alone n outer_place ts slices own (10 * n) now f) ∙ sym (asks_10n n outer_place ts slices own now)
