-- Decimal numbers: what the digits of a number are, and that a number that was written is read back as itself. Assumes nothing.
use Rattle.std.specs.Prelude.{ℕ, zero, suc, ◌+◌, ◌-◌, ◌*◌, ◌/◌, ◌%◌, ◌^◌, ◌≤◌, ◌<◌, ◌≡◌, refl, Bool, true, false, not, ◌&&◌, ◌||◌, List, [], ◌∷◌, ◌++◌, leb, eqb, length, take, get_or, ℤ, pos, negsuc, nat_abs, ◌≤ℤ◌}
use Rattle.std.proofs.Common.{ap, ◌∙◌, arith, leb→le, take-suc, lt-ltb, le-ltb, le-leb, eq-eqb, ne_eqb, leb-true, eqb-true}
use Rattle.std.proofs.Math.Option.{Option, none, some}
use Rattle.std.proofs.Math.Decide.{dec_lt}
use Rattle.std.specs.Int.Signed.{lt_z}
use Rattle.std.proofs.lemmas.Bool.{lt-leb}
use Rattle.definitions.specs.Lists.{all}
use Rattle.definitions.specs.Job.{LF, TAB, digit, value, natural, natural_to, vertex_field, weight_field, digits, decimal}

-- ---- a test and another

pub and_left : (a b : Bool) → a && b ≡ true → a ≡ true
and_left true b e = refl
and_left false b e = e

pub and_right : (a b : Bool) → a && b ≡ true → b ≡ true
and_right true b e = e
and_right false b e = cc

-- what passes one test passes another that follows from it
pub all_imp : (p q : ℕ → Bool) → ((b : ℕ) → p b ≡ true → q b ≡ true) → (bs : List ℕ) → all p bs ≡ true → all q bs ≡ true
unfolding all
all_imp p q f [] e = refl
all_imp p q f (b ∷ bs) e = rw (f b (and_left (p b) (all p bs) e)) (all_imp p q f bs (and_right (p b) (all p bs) e))

-- ---- a digit

pub digit-yes : (b : ℕ) → 48 ≤ b → b ≤ 57 → digit b ≡ true
unfolding digit
digit-yes b h k = rw (le-leb 48 b h, le-leb b 57 k)

pub digit_low : (b : ℕ) → b < 48 → digit b ≡ false
unfolding digit
digit_low b h = rw (lt-leb 48 b h)

pub digit-high : (b : ℕ) → 57 < b → digit b ≡ false
unfolding digit
digit-high b h = elim (dec_lt b 48) [ yes k ↦ digit_low b k | no k ↦ rw (le-leb 48 b (omega arith), lt-leb b 57 h) ]

pub digit_is : (b : ℕ) → digit b ≡ true → (48 ≤ b) × (b ≤ 57)
unfolding digit
digit_is b e = go (leb 48 b) (leb b 57) refl refl e
  where
    go : (x y : Bool) → leb 48 b ≡ x → leb b 57 ≡ y → x && y ≡ true → (48 ≤ b) × (b ≤ 57)
    go true true p q h = (leb-true 48 b p, leb-true b 57 q)
    go true false p q h = let z : ◌≡◌ {A = ℕ} 0 1 = cc in omega arith
    go false y p q h = let z : ◌≡◌ {A = ℕ} 0 1 = cc in omega arith

-- ---- the digits of a number

-- one step of `digits`, by how large the number is
digits-one : (k n : ℕ) (ds : List ℕ) → n < 10 → digits (suc k) n ds ≡ (48 + n) ∷ ds
unfolding digits
digits-one k n ds h = rw (lt-ltb n 10 h, digits)

digits_more : (k n : ℕ) (ds : List ℕ) → 10 ≤ n → digits (suc k) n ds ≡ digits k (n / 10) ((48 + n % 10) ∷ ds)
unfolding digits
digits_more k n ds h = rw (le-ltb n 10 h, digits)

-- the digits that are written stand for the number
pub value-digits : (k n : ℕ) (ds : List ℕ) → n < k → value 0 (digits k n ds) ≡ value n ds
unfolding value
value-digits zero n ds h = omega arith
value-digits (suc k) n ds h =
    elim (dec_lt n 10) [
      | yes a ↦
          let e : 10 * 0 + (48 + n - 48) ≡ n = omega arith in
          rw (digits-one k n ds a) (ap (λ (x : ℕ). value x ds) e)
      | no a ↦
          let e : 10 * (n / 10) + (48 + n % 10 - 48) ≡ n = omega arith in
          rw (digits_more k n ds (omega arith)) (value-digits k (n / 10) ((48 + n % 10) ∷ ds) (omega arith) ∙ ap (λ (x : ℕ). value x ds) e)
    ]

-- all of them are digits
pub all_digits : (k n : ℕ) (ds : List ℕ) → n < k → all digit ds ≡ true → all digit (digits k n ds) ≡ true
unfolding all
all_digits zero n ds h e = absurd (omega arith)
all_digits (suc k) n ds h e =
    elim (dec_lt n 10) [
      | yes a ↦ rw (digits-one k n ds a, digit-yes (48 + n) (omega arith) (omega arith)) e
      | no a ↦
          rw (digits_more k n ds (omega arith))
          (all_digits k (n / 10) ((48 + n % 10) ∷ ds) (omega arith) (rw (digit-yes (48 + n % 10) (omega arith) (omega arith)) e))
    ]

-- the first byte is there, and is no 0
unfoldable led : List ℕ → Bool
led [] = false
led (b ∷ bs) = not (eqb b 48)

led-digits : (k n : ℕ) (ds : List ℕ) → n < k → 0 < n → led (digits k n ds) ≡ true
unfolding led
led-digits zero n ds h p = absurd (omega arith)
led-digits (suc k) n ds h p =
    elim (dec_lt n 10) [
      | yes a ↦
          let ne : 48 + n ≡ 48 → ⊥ = omega arith in
          rw (digits-one k n ds a, ne_eqb (48 + n) 48 ne)
      | no a ↦ rw (digits_more k n ds (omega arith)) (led-digits k (n / 10) ((48 + n % 10) ∷ ds) (omega arith) (omega arith))
    ]

-- digits that do not begin with 0 are read
natural-led : (bs : List ℕ) → all digit bs ≡ true → led bs ≡ true → natural bs ≡ some (value 0 bs)
unfolding all led natural value
natural-led [] e l = cc
natural-led (b ∷ []) e l =
    let h : digit b ≡ true = and_left (digit b) true e in
    let v : 10 * 0 + (b - 48) ≡ b - 48 = omega arith in
    rw (h, v)
natural-led (b ∷ c ∷ bs) e l = rw (e, l)

-- ---- numbers written are read back

-- what a number is written as has no leading zero, and is read as the number
pub read_back : (n : ℕ) → natural (digits (suc n) n []) ≡ some n
unfolding all natural digits value
read_back zero = refl
read_back (suc n) =
    natural-led (digits (suc (suc n)) (suc n) []) (all_digits (suc (suc n)) (suc n) [] (omega arith) refl)
    (led-digits (suc (suc n)) (suc n) [] (omega arith) (omega arith))
    ∙ ap some (value-digits (suc (suc n)) (suc n) [] (omega arith))

read_back_to : (most n : ℕ) → n ≤ most → natural_to most (digits (suc n) n []) ≡ some n
unfolding natural_to
read_back_to most n h = rw (read_back n, natural_to) (rw (le-leb n most h))

-- a vertex
pub vertex_back : (n : ℕ) → n ≤ 65535 → vertex_field (decimal (pos n)) ≡ some n
unfolding vertex_field decimal
vertex_back n h = read_back_to 65535 n h

-- ---- weights

-- a number read after no sign, and after a minus, where 0 is refused
unfoldable pub plus : Option ℕ → Option ℤ
plus none = none
plus (some k) = some (pos k)

unfoldable pub minus : Option ℕ → Option ℤ
minus none = none
minus (some zero) = none
minus (some (suc k)) = some (negsuc k)

pub weight-plus : (b : ℕ) (bs : List ℕ) → (b ≡ 45 → ⊥) → weight_field (b ∷ bs) ≡ plus (natural_to 2147483647 (b ∷ bs))
unfolding weight_field plus
weight-plus b bs ne = rw (ne_eqb b 45 ne, weight_field)

pub weight-minus : (b : ℕ) (bs : List ℕ) → b ≡ 45 → weight_field (b ∷ bs) ≡ minus (natural_to 2147483648 bs)
unfolding weight_field minus
weight-minus b bs e = rw (eq-eqb b 45 e, weight_field)

-- digits, where there are some, are a number with no sign
weight-digits : (bs : List ℕ) → all digit bs ≡ true → (k : ℕ) → natural_to 2147483647 bs ≡ some k → weight_field bs ≡ some (pos k)
unfolding all natural_to plus
weight-digits [] a k e = cc
weight-digits (b ∷ bs) a k e =
    let d : 48 ≤ b = (digit_is b (and_left (digit b) (all digit bs) a)).0 in
    weight-plus b bs (omega arith) ∙ ap plus e

-- a weight
pub weight-back : (z : ℤ) → negsuc 2147483647 ≤ℤ z → z ≤ℤ pos 2147483647 → weight_field (decimal z) ≡ some z
unfolding decimal all minus
weight-back (pos n) lo hi =
    weight-digits (digits (suc n) n []) (all_digits (suc n) n [] (omega arith) refl) n
    (read_back_to 2147483647 n (leb→le n 2147483647 hi.le))
weight-back (negsuc n) lo hi =
    weight-minus 45 (digits (suc (suc n)) (suc n) []) refl
    ∙ ap minus (read_back_to 2147483648 (suc n) (omega (arith, leb→le n 2147483647 lo.le)))

-- ---- what is written of a number

-- every byte of it is a digit or the minus
unfoldable pub sign : ℕ → Bool
unfolding digit
sign b = digit b || eqb b 45

digit-sign : (b : ℕ) → digit b ≡ true → sign b ≡ true
unfolding sign
digit-sign b e = rw e

pub decimal_signs : (z : ℤ) → all sign (decimal z) ≡ true
unfolding decimal all sign
decimal_signs (pos n) = all_imp digit sign digit-sign (digits (suc n) n []) (all_digits (suc n) n [] (omega arith) refl)
decimal_signs (negsuc n) =
    all_imp digit sign digit-sign (digits (suc (suc n)) (suc n) []) (all_digits (suc (suc n)) (suc n) [] (omega arith) refl)

-- so it has no tab and no LF
unfoldable pub in_field : ℕ → Bool
in_field b = not (eqb b TAB) && not (eqb b LF)

sign-in_field : (b : ℕ) → sign b ≡ true → in_field b ≡ true
unfolding sign in_field
sign-in_field b e = go (digit b) refl e
  where
    go : (x : Bool) → digit b ≡ x → x || eqb b 45 ≡ true → in_field b ≡ true
    go true p h =
        let d = (digit_is b p).0 in
        rw (ne_eqb b TAB (omega arith), ne_eqb b LF (omega arith))
    go false p h =
        let d = eqb-true b 45 h in
        rw (ne_eqb b TAB (omega arith), ne_eqb b LF (omega arith))

pub decimal-in_field : (z : ℤ) → all in_field (decimal z) ≡ true
decimal-in_field z = all_imp sign in_field sign-in_field (decimal z) (decimal_signs z)

-- ---- lengths

-- a number below 10 ^ j has at most j digits
digits-length : (j k n : ℕ) (ds : List ℕ) → n < k → n < 10 ^ suc j → length (digits k n ds) ≤ suc j + length ds
digits-length zero zero n ds h b = absurd (omega arith)
digits-length (suc j) zero n ds h b = absurd (omega arith)
digits-length zero (suc k) n ds h b = rw (digits-one k n ds b) (omega arith)
digits-length (suc j) (suc k) n ds h b =
    elim (dec_lt n 10) [
      | yes a ↦ rw (digits-one k n ds a) (omega arith)
      | no a ↦
          rw (digits_more k n ds (omega arith))
          (omega (arith, digits-length j k (n / 10) ((48 + n % 10) ∷ ds) (omega arith) (omega arith)))
    ]

-- how many there are does not depend on the fuel, where it is enough, nor on the digits that stand behind
digits-count : (k l n : ℕ) (ds es : List ℕ) → n < k → n < l → length (digits k n ds) + length es ≡ length (digits l n es) + length ds
digits-count zero zero n ds es h h' = absurd (omega arith)
digits-count zero (suc l) n ds es h h' = absurd (omega arith)
digits-count (suc k) zero n ds es h h' = absurd (omega arith)
digits-count (suc k) (suc l) n ds es h h' =
    elim (dec_lt n 10) [
      | yes a ↦ rw (digits-one k n ds a, digits-one l n es a) (omega arith)
      | no a ↦
          rw (digits_more k n ds (omega arith), digits_more l n es (omega arith))
          (omega (arith, digits-count k l (n / 10) ((48 + n % 10) ∷ ds) ((48 + n % 10) ∷ es) (omega arith) (omega arith)))
    ]

-- the digits of n
abbrev pub numeral : ℕ → List ℕ
numeral n = digits (suc n) n []

pub numeral-digits : (n : ℕ) → all digit (numeral n) ≡ true
unfolding all
numeral-digits n = all_digits (suc n) n [] (omega arith) refl

pub numeral-value : (n : ℕ) → value 0 (numeral n) ≡ n
unfolding value
numeral-value n = value-digits (suc n) n [] (omega arith)

-- a number of 64 bits has at most 20
pub numeral_short : (n : ℕ) → n < 2 ^ 64 → length (numeral n) ≤ 20
numeral_short n h = omega (arith, digits-length 19 (suc n) n [] (omega arith) (omega arith))

-- what is written of a number, by its sign and its absolute value
unfoldable pub signed : Bool → ℕ → List ℕ
signed true n = 45 ∷ numeral n
signed false n = numeral n

pub decimal-signed : (z : ℤ) → decimal z ≡ signed (lt_z z (pos 0)) (nat_abs z)
unfolding decimal signed
decimal-signed (pos n) = rw (le-ltb n 0 (omega arith))
decimal-signed (negsuc n) = refl

pub count-one : (n : ℕ) → n < 10 → length (digits (suc n) n []) ≡ 1
count-one n h = rw (digits-one n n [] h)

pub count-more : (n : ℕ) → 10 ≤ n → length (digits (suc n) n []) ≡ suc (length (digits (suc (n / 10)) (n / 10) []))
count-more n h =
    rw (digits_more n n [] h) (omega (arith, digits-count n (suc (n / 10)) (n / 10) ((48 + n % 10) ∷ []) [] (omega arith) (omega arith)))

-- A number whose absolute value is below 10 ^ j is written with at most j bytes and the minus.
pub decimal_short : (j n : ℕ) → n < 10 ^ suc j → length (decimal (pos n)) ≤ suc j
unfolding decimal
decimal_short j n h = omega (arith, digits-length j (suc n) n [] (omega arith) h)

pub decimal-length : (j : ℕ) (z : ℤ) → nat_abs z < 10 ^ suc j → length (decimal z) ≤ suc (suc j)
unfolding decimal
decimal-length j (pos n) h = omega (arith, digits-length j (suc n) n [] (omega arith) h)
decimal-length j (negsuc n) h = omega (arith, digits-length j (suc (suc n)) (suc n) [] (omega arith) h)

-- ---- one digit after another

pub all-at : (p : ℕ → Bool) (bs : List ℕ) (k : ℕ) → all p bs ≡ true → k < length bs → p (get_or bs k 0) ≡ true
unfolding all
all-at p [] k e h = absurd (omega arith)
all-at p (b ∷ bs) zero e h = and_left (p b) (all p bs) e
all-at p (b ∷ bs) (suc k) e h = all-at p bs k (and_right (p b) (all p bs) e) (omega arith)

value_snoc : (n : ℕ) (bs : List ℕ) (b : ℕ) → value n (bs ++ b ∷ []) ≡ 10 * value n bs + (b - 48)
unfolding value
value_snoc n [] b = refl
value_snoc n (c ∷ bs) b = value_snoc (10 * n + (c - 48)) bs b

-- the last of the first digits is what is left by 10, and those before it stand for the quotient
pub record Last (ds : List ℕ) (k : ℕ) : Type 0 where
  pub byte : 48 + value 0 (take (suc k) ds) % 10 ≡ get_or ds k 0
  pub before : value 0 (take (suc k) ds) / 10 ≡ value 0 (take k ds)

pub last-digit : (ds : List ℕ) (k : ℕ) → all digit ds ≡ true → k < length ds → Last ds k
last-digit ds k e h =
    let d = digit_is (get_or ds k 0) (all-at digit ds k e h) in
    let s : value 0 (take (suc k) ds) ≡ 10 * value 0 (take k ds) + (get_or ds k 0 - 48) = rw (take-suc ds k 0 h) (value_snoc 0 (take k ds) (get_or ds k 0)) in
    record { byte = omega (arith, s, d.0, d.1); before = omega (arith, s, d.0, d.1) }
