-- An iteration of each loop, and a sign, in the shape in which the code hands them over. Assumes nothing.
use Rattle.std.specs.Prelude.{ℕ, zero, suc, ◌+◌, ◌*◌, ◌-◌, ◌/◌, ◌%◌, ◌^◌, ◌≤◌, ◌<◌, ◌≡◌, refl, Bool, true, false, List, [], ◌∷◌, ◌++◌, length, take}
use Rattle.std.specs.Prelude.{drop, set, ℤ, pos, nat_abs}
use Rattle.std.proofs.Common.{sym, ap, ◌∙◌, true≢false, arith, length-append, take-append-drop, take_all, drop_at, SFits, of_z, to_z, to_z-of_z}
use Rattle.std.proofs.Math.ListN.{get_or-append}
use Rattle.std.specs.Int.Signed.{lt_z}
use Rattle.std.specs.Int.{w64}
use Rattle.definitions.specs.Job.{value, decimal}
use Rattle.text_model.specs.Numbers.{numeral, count-one, count-more, numeral-digits, numeral-value, signed, decimal-signed, Last, last-digit}
use Rattle.text_model.specs.Writing.{Wrote, fill-back}

-- ---- how many digits n has

-- one more than the logarithm
pub count-log : (k n : ℕ) → 10 ^ k ≤ n → n < 10 * 10 ^ k → length (numeral n) ≡ k + 1
count-log zero n a b = count-one n (omega arith)
count-log (suc k) n a b = omega (arith, count-more n (omega arith), count-log k (n / 10) (omega arith) (omega arith))

-- ---- digits, from the last to the first

-- the digits from place k on stand in the buffer, and those before it stand for m
pub record Filled (n count : ℕ) (old out : List ℕ) (m k : ℕ) : Type 0 where
  pub within : k ≤ count
  pub left : m ≡ value 0 (take k (numeral n))
  pub bytes : out ≡ take k old ++ drop k (numeral n ++ drop count old)

module _ (n count : ℕ) (old : List ℕ) (e : count ≡ length (numeral n)) (h : count ≤ length old) where
  pub filled_none : Filled n count old old n count
  filled_none =
      record {
        within = omega arith;
        left = sym (ap (value 0) (take_all count (numeral n) (omega arith)) ∙ numeral-value n);
        bytes =
            sym (ap (λ (l : List ℕ). take count old ++ l) (drop_at (numeral n) (drop count old) count (sym e)) ∙ take-append-drop count old);
      }

  step : (out : List ℕ) (m k : ℕ) → Filled n count old out m (suc k) → Filled n count old (set out k (48 + m % 10)) (m / 10) k
  step out m k f =
      let d : Last (numeral n) k = last-digit (numeral n) k (numeral-digits n) (omega (arith, f.within)) in
      let w : suc k ≤ length (numeral n ++ drop count old) = omega (arith, f.within, length-append (numeral n) (drop count old)) in
      record {
        within = omega (arith, f.within);
        left = ap (λ (x : ℕ). x / 10) f.left ∙ d.before;
        bytes =
            ap (λ (l : List ℕ). set l k (48 + m % 10)) f.bytes
            ∙ fill-back old (numeral n ++ drop count old) k (48 + m % 10) (omega (arith, f.within)) w
            (ap (λ (x : ℕ). 48 + x % 10) f.left ∙ d.byte ∙ sym (get_or-append (numeral n) (drop count old) 0 k (omega (arith, f.within))));
      }

  pub filled_more : (out : List ℕ) (m k : ℕ) → Filled n count old out m k → 0 < k →
      Filled n count old (set out (k - 1) (48 + m % 10)) (m / 10) (k - 1)
  filled_more out m zero f p = absurd (omega arith)
  filled_more out m (suc k) f p =
      let s : suc k - 1 ≡ k = omega arith in
      rw s (step out m k f)

-- ---- a sign and the digits after it

pub with_minus : (x : Bool) (m : ℕ) → x ≡ true → signed x m ≡ (45 ∷ []) ++ numeral m
unfolding signed
with_minus true m e = refl
with_minus false m e = absurd (true≢false (sym e))

pub minus_counted : (x : Bool) (m r : ℕ) → x ≡ true → r ≡ length (numeral m) → r + 1 ≡ length (signed x m)
minus_counted x m r e h = rw (with_minus x m e) (omega arith)

pub with_none : (x : Bool) (m : ℕ) → x ≡ false → signed x m ≡ numeral m
unfolding signed
with_none true m e = absurd (true≢false e)
with_none false m e = refl

pub none_room : (x : Bool) (m : ℕ) (out : List ℕ) → x ≡ false → length (signed x m) ≤ length out → length (numeral m) ≤ length out
none_room x m out e h = rw (with_none x m e) at h

-- a sign and an absolute value that were found of z, which was handed over as bits
module _ (z : ℤ) (x : Bool) (m : ℕ) (f : SFits w64 z) (e : x ≡ lt_z (to_z w64 (of_z w64 z)) (pos 0)) (g : m ≡ nat_abs (to_z w64 (of_z w64 z))) where
  found : decimal z ≡ signed x m
  found = rw (e, g, to_z-of_z f) (decimal-signed z)

  pub decimal_counted : (r : ℕ) → r ≡ length (signed x m) → r ≡ length (decimal z)
  decimal_counted r h = rw found h

  pub decimal_room : (out : List ℕ) → length (decimal z) ≤ length out → length (signed x m) ≤ length out
  decimal_room out h = rw found at h

  pub decimal_wrote : (old out : List ℕ) (r : ℕ) → Wrote (signed x m) old out r → Wrote (decimal z) old out r
  decimal_wrote old out r h = rw found h
