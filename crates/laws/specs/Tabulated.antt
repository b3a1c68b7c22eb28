-- Lists that tabulate a function along a run of numbers, as loops fill and read them. Assumes nothing.
use Rattle.std.specs.Prelude.{ℕ, ◌+◌, ◌≤◌, ◌<◌, ◌≡◌, List, map, length, get_or, set}
use Rattle.std.proofs.Common.{sym, ◌∙◌, arith, length-set, ext_get_or, get_or-set_same, get_or-set_other}
use Rattle.std.proofs.Math.Decide.{ℕ_discrete}
use Rattle.std.proofs.lemmas.List.{length-map}
use Rattle.definitions.specs.Lists.{range}
use Rattle.laws.specs.Lists.{length-range}
use Rattle.laws.specs.Multiples.{get_or-map-range}

module _ {A : Type 0} where
  pub length-table : (f : ℕ → A) (from k : ℕ) → length (map f (range from k)) ≡ k
  length-table f from k = length-map (range from k) f ∙ length-range from k

  module _ (f : ℕ → A) (from k : ℕ) (d : A) where
    -- a list as long as the table, whose first i entries are the table's
    pub record Filled (xs : List A) (i : ℕ) : Type 0 where
      pub long : length xs ≡ k
      pub entries : (j : ℕ) → j < i → get_or xs j d ≡ f (from + j)

    pub filled_none : (xs : List A) → length xs ≡ k → Filled xs 0
    filled_none xs e = record { long = e; entries = λ j h. absurd (omega arith) }

    pub filled_more : (xs : List A) (i : ℕ) → i < k → Filled xs i → Filled (set xs i (f (from + i))) (i + 1)
    filled_more xs i h q = record {
      long = length-set xs i (f (from + i)) ∙ q.long;
      entries = λ j g. elim (ℕ_discrete j i) [
        | yes e ↦ rw e (get_or-set_same xs i (f (from + i)) d (omega (arith, q.long)))
        | no e ↦ get_or-set_other xs i j (f (from + i)) d e ∙ q.entries j (omega (arith, e))
      ];
    }

    pub filled_all : (xs : List A) (i : ℕ) → k ≤ i → Filled xs i → xs ≡ map f (range from k)
    filled_all xs i h q =
        ext_get_or d xs (map f (range from k)) (q.long ∙ sym (length-table f from k))
        (λ j g. q.entries j (omega (arith, q.long)) ∙ sym (get_or-map-range f from k j d (omega (arith, q.long))))
