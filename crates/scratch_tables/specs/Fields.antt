-- Four numbers in a word of scratch, 16 bits for each of the first three; and tables of one such number of each word. Assumes nothing.
use Rattle.std.specs.Prelude.{ℕ, zero, suc, ◌+◌, ◌*◌, ◌/◌, ◌%◌, ◌^◌, ◌<◌, ◌≡◌, cond, eqb}
use Rattle.std.proofs.Math.Path.{fun_ext}
use native.Mathlib.Omega.{arith}
use Rattle.std.proofs.Math.Decide.{ℕ_discrete}
use Rattle.scratch_tables.specs.Tables.{upd, upd-at, upd_other}

unfoldable pub pack : ℕ → ℕ → ℕ → ℕ → ℕ
pack a b c d = a + 65536 * b + 4294967296 * c + 281474976710656 * d

unfoldable pub field0 : ℕ → ℕ
field0 w = w % 65536

unfoldable pub field1 : ℕ → ℕ
field1 w = w / 65536 % 65536

unfoldable pub field2 : ℕ → ℕ
field2 w = w / 4294967296 % 65536

unfoldable pub field3 : ℕ → ℕ
field3 w = w / 281474976710656

-- the number at place 0, 1, 2 or 3
abbrev pub field : ℕ → ℕ → ℕ
field k w = cond (eqb k 0) (field0 w) (cond (eqb k 1) (field1 w) (cond (eqb k 2) (field2 w) (field3 w)))

-- as the code reads it from a word of 64 bits
pub field_is : (k w : ℕ) → k < 4 → w < 2 ^ 64 → w / 2 ^ (16 * k) % 65536 ≡ field k w
unfolding field0 field1 field2 field3
field_is zero w h f = omega arith
field_is (suc zero) w h f = omega arith
field_is (suc (suc zero)) w h f = omega arith
field_is (suc (suc (suc zero))) w h f = omega arith
field_is (suc (suc (suc (suc k)))) w h f = absurd (omega arith)

module _ (a b c d w : ℕ) (e : w ≡ pack a b c d) (ha : a < 65536) (hb : b < 65536) (hc : c < 65536) where
  pub field0_is : field0 w ≡ a
  unfolding field0 pack
  field0_is = omega arith

  pub field1_is : field1 w ≡ b
  unfolding field1 pack
  field1_is = omega arith

  pub field2_is : field2 w ≡ c
  unfolding field2 pack
  field2_is = omega arith

  pub field3_is : field3 w ≡ d
  unfolding field3 pack
  field3_is = omega arith

pub field0_small : (w : ℕ) → field0 w < 65536
unfolding field0
field0_small w = omega arith

pub field1_small : (w : ℕ) → field1 w < 65536
unfolding field1
field1_small w = omega arith

pub field2_small : (w : ℕ) → field2 w < 65536
unfolding field2
field2_small w = omega arith

-- ---- a table of one field of each word, where one word is stored

pub field-set : (f : ℕ → ℕ) (i x y : ℕ) (g : ℕ → ℕ) → f x ≡ y → ◌≡◌ {A = ℕ → ℕ} (λ j. f (upd i x g j)) (upd i y (λ j. f (g j)))
field-set f i x y g e = fun_ext (λ j. elim (ℕ_discrete j i) [
  | yes q ↦ rw (upd-at i j x g q, upd-at i j y (λ j. f (g j)) q) e
  | no q ↦ rw (upd_other i j x g q, upd_other i j y (λ j. f (g j)) q)
])

-- and where that field is what it was
pub field-kept : (f : ℕ → ℕ) (i x : ℕ) (g : ℕ → ℕ) → f x ≡ f (g i) → ◌≡◌ {A = ℕ → ℕ} (λ j. f (upd i x g j)) (λ j. f (g j))
field-kept f i x g e = fun_ext (λ j. elim (ℕ_discrete j i) [
  | yes q ↦ rw (upd-at i j x g q, q) e
  | no q ↦ rw (upd_other i j x g q)
])
