-- Steps through a number, in the shape in which the code hands them over. Assumes nothing.
use Rattle.std.specs.Prelude.{ℕ, zero, suc, ◌≡◌, ◌-ℤ◌, ◌≤◌, ◌≢◌, refl, true, false, List, [], ◌∷◌, ℤ, pos, neg_ℤ, take, drop}
use Rattle.std.proofs.Common.{sym, ap, arith, of_z, to_z, to_z-of_z}
use Rattle.std.proofs.lemmas.Bool.Decides.{nat_tests}
use Rattle.std.proofs.lemmas.Int.{ints}
use Rattle.std.proofs.Math.Option.{none, some}
use Rattle.std.specs.Int.{w64}
use Rattle.std.specs.Str.{bytes_eq}
use Rattle.definitions.specs.Job.{natural_to, weight_field}
use Rattle.text_model.specs.Numbers.{plus, minus, weight-plus, weight-minus}
use Rattle.text_model.specs.Scan.{none_empty}

-- ---- a weight with no minus at its front

module _ (s : List ℕ) (e : bytes_eq (take 1 s) (45 ∷ []) ≡ false) where
  plain : weight_field s ≡ plus (natural_to 2147483647 s)
  unfolding weight_field plus
  plain = go s e
    where
      go : (s : List ℕ) → bytes_eq (take 1 s) (45 ∷ []) ≡ false → weight_field s ≡ plus (natural_to 2147483647 s)
      go [] e = sym (ap plus (none_empty 2147483647 [] refl))
      go (b ∷ s) e = weight-plus b s (grind (arith, nat_tests))

  pub plus_none : none ≡ natural_to 2147483647 s → none ≡ weight_field s
  unfolding plus
  plus_none f = rw (plain, ← f)

  pub plus_is : (k : ℕ) (z : ℤ) → some k ≡ natural_to 2147483647 s → z ≡ pos k → some z ≡ weight_field s
  unfolding plus
  plus_is k z f g = rw (plain, ← f, g)

-- ---- a weight with a minus at its front

module _ (s digits : List ℕ) (e : bytes_eq (take 1 s) (45 ∷ []) ≡ true) (d : digits ≡ drop 1 s) where
  signed : weight_field s ≡ minus (natural_to 2147483648 digits)
  signed = rw d (go s e)
    where
      go : (s : List ℕ) → bytes_eq (take 1 s) (45 ∷ []) ≡ true → weight_field s ≡ minus (natural_to 2147483648 (drop 1 s))
      go [] e = cc
      go (b ∷ s) e = weight-minus b s (grind (arith, nat_tests))

  pub minus-none : none ≡ natural_to 2147483648 digits → none ≡ weight_field s
  unfolding minus
  minus-none f = rw (signed, ← f)

  pub minus_zero : (k : ℕ) → some k ≡ natural_to 2147483648 digits → k ≡ 0 → none ≡ weight_field s
  unfolding minus
  minus_zero k f g = rw (signed, ← f, g)

  pub minus_is : (k : ℕ) (z : ℤ) → some k ≡ natural_to 2147483648 digits → k ≢ 0 → z ≡ neg_ℤ (pos k) → some z ≡ weight_field s
  unfolding minus
  minus_is zero z f ne g = absurd (ne refl)
  minus_is (suc k) z f ne g = rw (signed, ← f, g)

-- the opposite of a number of 32 bits, as the code computes it
pub opposite : (k : ℕ) (y : ℤ) → y ≡ pos k → k ≤ 2147483648 → to_z w64 (of_z w64 (pos 0 -ℤ to_z w64 (of_z w64 y))) ≡ neg_ℤ (pos k)
opposite k y e h = grind (arith, ints, to_z-of_z)
