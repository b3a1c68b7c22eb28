-- Row 2 asks one thing of scratch, its length. Where it has the length that is asked for, a call finds what it would find were nothing asked of scratch; so
-- it finds the same with the 24n words that were asked for before C-20 and with 10n (proofs/ScratchLength). Assumes nothing.
use Rattle.std.specs.Prelude.{ℕ, ◌*◌, ◌≡◌, Bool, not, ◌||◌, List, ◌∷◌, ◌++◌, ℤ, length}
use Rattle.std.proofs.Math.Path.{refl, ap}
use Rattle.std.proofs.Common.{eq-eqb}
use Rattle.std.proofs.Math.Option.{Option}
use Rattle.definitions.specs.Lists.{any}
use Rattle.definitions.specs.Answers.{Refusal, Row, row, first_refusal}
use Rattle.definitions.specs.Mesh.{triangles_length}
use Rattle.definitions.specs.Refusals.{row1, row2, most_vertices, Slice, slice, wrong_length, lent_refusal, call_refusal}
use Rattle.theory_sphere.specs.FirstRefusal.{rim_rows}

-- a slice that has its length makes no difference
fits : (ahead : Slice) (has wanted : ℕ) (slices : List Slice) → has ≡ wanted → row2 (ahead ∷ slice has wanted ∷ slices) ≡ row2 (ahead ∷ slices)
unfolding row2 any wrong_length
fits ahead has wanted slices e = ap (λ b. wrong_length ahead || (not b || any wrong_length slices)) (eq-eqb has wanted e)

module _ (n outer_place : ℕ) (ts : List ℕ) (slices : List Slice) (own : List Row) where
  -- what a call on a mesh finds, by what row 2 finds
  abbrev found_with : Bool → Option Refusal
  found_with other = first_refusal (row 1 (λ _. row1 most_vertices n) ∷ row 2 (λ _. other) ∷ rim_rows n outer_place ts ++ own)

  -- where scratch is asked for `words` words, and where nothing is asked of it
  unfoldable pub found_asking : ℕ → List ℤ → Option Refusal
  found_asking words scratch = found_with (row2 (slice (length ts) (triangles_length n) ∷ slice (length scratch) words ∷ slices))

  unfoldable pub found_without : Option Refusal
  found_without = found_with (row2 (slice (length ts) (triangles_length n) ∷ slices))

  -- 10n words are asked for
  pub asks_10n : (scratch : List ℤ) → call_refusal n outer_place ts scratch slices own ≡ found_asking (10 * n) scratch
  unfolding call_refusal lent_refusal found_asking rim_rows
  asks_10n scratch = refl

  pub length_alone : (words : ℕ) (scratch : List ℤ) → length scratch ≡ words → found_asking words scratch ≡ found_without
  unfolding found_asking found_without
  length_alone words scratch e = ap found_with (fits (slice (length ts) (triangles_length n)) (length scratch) words slices e)
