-- Reading a number byte by byte, with a bound that is looked at after each byte: the same as reading it by its definition. Assumes nothing.
use Rattle.std.specs.Prelude.{ℕ, ◌+◌, ◌-◌, ◌*◌, ◌≤◌, ◌<◌, ◌≡◌, refl, Bool, true, false, not, ◌&&◌, cond, List, [], ◌∷◌, leb, eqb, length, get_or, drop}
use Rattle.std.proofs.Common.{sym, ◌∙◌, arith, add-one, drop_of_length-le}
use Rattle.std.proofs.Math.Option.{Option, none, some}
use Rattle.std.proofs.Math.Decide.{dec_le}
use Rattle.std.proofs.Math.Seq.{drop-cons}
use borrow.Author.Tests.{leb-true, le-leb, lt-leb, eq-eqb, ne_eqb}
use Rattle.definitions.specs.Lists.{all}
use Rattle.definitions.specs.Job.{digit, value, natural, natural_to}
use Rattle.text_model.specs.Numbers.{digit-yes, digit_low, digit-high}

-- the number that bytes stand for, with those before them standing for n, or none where one is no digit or the number passes the bound
unfoldable pub scan : ℕ → ℕ → List ℕ → Option ℕ
unfolding digit
scan most n [] = some n
scan most n (b ∷ bs) = cond (digit b) (cond (leb (10 * n + (b - 48)) most) (scan most (10 * n + (b - 48)) bs) none) none

-- what the whole comes to
bounded : ℕ → Bool → ℕ → Option ℕ
bounded most good v = cond good (cond (leb v most) (some v) none) none

value_grows : (n : ℕ) (bs : List ℕ) → n ≤ value n bs
unfolding value
value_grows n [] = omega arith
value_grows n (b ∷ bs) = omega (arith, value_grows (10 * n + (b - 48)) bs)

scan-whole : (most n : ℕ) (bs : List ℕ) → n ≤ most → scan most n bs ≡ bounded most (all digit bs) (value n bs)
unfolding scan bounded all value
scan-whole most n [] h = rw (le-leb n most h)
scan-whole most n (b ∷ bs) h = go (digit b) (scan-whole most (10 * n + (b - 48)) bs)
  where
    v : ℕ
    v = 10 * n + (b - 48)

    past : (x : Bool) → most < v → none ≡ cond x (cond (leb (value v bs) most) (some (value v bs)) none) none
    past true g = rw (lt-leb (value v bs) most (omega (arith, value_grows v bs)))
    past false g = refl

    go : (x : Bool)
        → (v ≤ most → scan most v bs ≡ cond (all digit bs) (cond (leb (value v bs) most) (some (value v bs)) none) none)
        → cond x (cond (leb v most) (scan most v bs) none) none ≡ cond (x && all digit bs) (cond (leb (value v bs) most) (some (value v bs)) none) none
    go false ih = refl
    go true ih =
        elim (dec_le v most) [
          | yes g ↦ rw (le-leb v most g) (ih g)
          | no g ↦ rw (lt-leb v most (omega arith)) (past (all digit bs) (omega arith))
        ]

-- ---- a number by its length and its first byte

-- a number that was read, where it is at most `most`
within : ℕ → Option ℕ → Option ℕ
within most none = none
within most (some k) = cond (leb k most) (some k) none

natural_to_within : (most : ℕ) (bs : List ℕ) (o : Option ℕ) → natural bs ≡ o → natural_to most bs ≡ within most o
unfolding natural_to within
natural_to_within most bs none e = rw (e, natural_to)
natural_to_within most bs (some k) e = rw (e, natural_to)

pub none_empty : (most : ℕ) (bs : List ℕ) → length bs ≡ 0 → natural_to most bs ≡ none
unfolding natural_to natural
none_empty most [] e = refl
none_empty most (b ∷ bs) e = absurd (omega arith)

-- a leading zero
pub none_zero : (most : ℕ) (bs : List ℕ) → 1 < length bs → get_or bs 0 0 ≡ 48 → natural_to most bs ≡ none
unfolding natural within
none_zero most [] h e = absurd (omega arith)
none_zero most (b ∷ []) h e = absurd (omega arith)
none_zero most (b ∷ c ∷ bs) h e = natural_to_within most (b ∷ c ∷ bs) _ refl ∙ go (all digit (b ∷ c ∷ bs))
  where
    go : (x : Bool) → within most (cond (x && not (eqb b 48)) (some (value 0 (b ∷ c ∷ bs))) none) ≡ none
    go true = rw (eq-eqb b 48 e)
    go false = refl

-- one byte, or a first byte that is no 0: it is the scan
pub one-scan : (most : ℕ) (bs : List ℕ) → length bs ≡ 1 → natural_to most bs ≡ scan most 0 bs
unfolding natural scan within
one-scan most [] e = absurd (omega arith)
one-scan most (b ∷ []) e =
    let v : 10 * 0 + (b - 48) ≡ b - 48 = omega arith in
    natural_to_within most (b ∷ []) _ refl ∙ rw v (go (digit b))
  where
    go : (x : Bool) → within most (cond x (some (b - 48)) none)
        ≡ cond x (cond (leb (b - 48) most) (some (b - 48)) none) none
    go true = refl
    go false = refl
one-scan most (b ∷ c ∷ bs) e = absurd (omega arith)

pub more-scan : (most : ℕ) (bs : List ℕ) → 1 < length bs → (get_or bs 0 0 ≡ 48 → ⊥) → natural_to most bs ≡ scan most 0 bs
unfolding natural bounded within
more-scan most [] h e = absurd (omega arith)
more-scan most (b ∷ []) h e = absurd (omega arith)
more-scan most (b ∷ c ∷ bs) h e = natural_to_within most (b ∷ c ∷ bs) _ refl ∙ go (all digit (b ∷ c ∷ bs))
    ∙ sym (scan-whole most 0 (b ∷ c ∷ bs) (omega arith))
  where
    v : ℕ
    v = value 0 (b ∷ c ∷ bs)

    go : (x : Bool) → within most (cond (x && not (eqb b 48)) (some v) none)
        ≡ cond x (cond (leb v most) (some v) none) none
    go true = rw (ne_eqb b 48 e)
    go false = refl

-- ---- one byte of a scan, as a loop over positions meets it

pub scan-end : (most n : ℕ) (bs : List ℕ) (i : ℕ) → length bs ≤ i → scan most n (drop i bs) ≡ some n
unfolding scan
scan-end most n bs i h = rw (drop_of_length-le bs {i = i} h)

module _ (most n : ℕ) (bs : List ℕ) (i : ℕ) (h : i < length bs) where
  pub scan_low : get_or bs i 0 < 48 → scan most n (drop i bs) ≡ none
  unfolding scan
  scan_low g = rw (drop-cons bs i 0 h, digit_low (get_or bs i 0) g)

  pub scan-high : 57 < get_or bs i 0 → scan most n (drop i bs) ≡ none
  unfolding scan
  scan-high g = rw (drop-cons bs i 0 h, digit-high (get_or bs i 0) g)

  pub scan_past : 48 ≤ get_or bs i 0 → get_or bs i 0 ≤ 57 → most < 10 * n + (get_or bs i 0 - 48) → scan most n (drop i bs) ≡ none
  unfolding scan
  scan_past g g' p = rw (drop-cons bs i 0 h, digit-yes (get_or bs i 0) g g', lt-leb (10 * n + (get_or bs i 0 - 48)) most p)

  pub scan-next : 48 ≤ get_or bs i 0 → get_or bs i 0 ≤ 57 → 10 * n + (get_or bs i 0 - 48) ≤ most
      → scan most n (drop i bs) ≡ scan most (10 * n + (get_or bs i 0 - 48)) (drop (i + 1) bs)
  unfolding scan
  scan-next g g' p =
      rw (add-one i, drop-cons bs i 0 h, digit-yes (get_or bs i 0) g g', le-leb (10 * n + (get_or bs i 0 - 48)) most p)

-- a number that was read is within its bound
pub within_most : (most : ℕ) (bs : List ℕ) (k : ℕ) → natural_to most bs ≡ some k → k ≤ most
unfolding within
within_most most bs k e = go (natural bs) (sym (natural_to_within most bs (natural bs) refl) ∙ e)
  where
    at : (j : ℕ) (x : Bool) → leb j most ≡ x → cond x (some j) none ≡ some k → k ≤ most
    at j true p q =
        let f : j ≡ k = cc in
        omega (arith, leb-true j most p)
    at j false p q = let z : ◌≡◌ {A = ℕ} 0 1 = cc in absurd (omega arith)

    go : (o : Option ℕ) → within most o ≡ some k → k ≤ most
    go none q = let z : ◌≡◌ {A = ℕ} 0 1 = cc in absurd (omega arith)
    go (some j) q = at j (leb j most) refl q
