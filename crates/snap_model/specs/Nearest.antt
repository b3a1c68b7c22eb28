-- The whole number nearest to a fraction ± a / b, over whole numbers alone: `nearest` of the definitions gives it, it is the only one, no other whole number
-- is nearer; it goes by the fraction and not by how the fraction is written, and its size is bounded. Then the sum by which code finds it. Assumes nothing.
use Rattle.std.specs.Prelude.{ℕ, zero, suc, ◌+◌, ◌-◌, ◌*◌, ◌/◌, ◌%◌, ◌≤◌, ◌<◌, ◌≡◌, refl, Bool, true, false, not, cond, ltb, ℤ, pos, negsuc, neg_ℤ, nat_abs, ◌+ℤ◌, ◌-ℤ◌, ◌*ℤ◌}
use Rattle.std.proofs.Common.{zero-mul, one-mul, suc-mul, add-mul, mul_comm, mul_assoc, mul_right_comm, mul-le-mul_right, lt_of_mul-lt-mul_right, le_of_mul-le-mul_right, div-add-mod', mod-lt, arith, sym, ap, ◌∙◌, lt-ltb, le-ltb, ltb-true, ltb-false}
use Rattle.std.proofs.Math.Nat.{eq_of_mul-eq-mul_right, mul-add-div_right, div-eq_of_lt, div-eq_of_lt-le}
use Rattle.std.proofs.Math.Decide.{dec_lt, ℕ_discrete}
use Rattle.std.proofs.Math.IntN.{neg_ℤ-neg_ℤ, neg_ℤ-+ℤ, +ℤ_comm}
use Rattle.definitions.specs.DrawnPoints.{nearest, signed}

-- ---- fractions that are not negative

-- For a b above 0: c is at most a half above or below a / b, and even where it is a half away. Both sides are multiplied by 2 * b.
record Beside (a b c : ℕ) : Type 0 where
  above : 2 * (c * b) ≤ 2 * a + b
  below : 2 * a ≤ 2 * (c * b) + b
  even_above : 2 * (c * b) ≡ 2 * a + b → c % 2 ≡ 0
  even_below : 2 * a ≡ 2 * (c * b) + b → c % 2 ≡ 0

nearest_beside : (a b : ℕ) → 0 < b → Beside a b (nearest a b)
unfolding nearest
nearest_beside a b h =
    let q = a / b in
    let r = a % b in
    let is : q * b + r ≡ a = div-add-mod' a b in
    let small : r < b = mod-lt a h in
    let more : (q + 1) * b ≡ q * b + b = add-mul q 1 b ∙ ap (λ (z : ℕ). q * b + z) (one-mul b) in
    elim (dec_lt (2 * r) b) [
      | yes l ↦
          rw (lt-ltb (2 * r) b l)
          (record { below = omega arith; above = omega arith; even_below = λ e. omega arith; even_above = λ e. omega arith })
      | no l ↦
          elim (dec_lt b (2 * r)) [
            | yes m ↦
                rw (le-ltb (2 * r) b (omega arith), lt-ltb b (2 * r) m)
                (record { below = omega arith; above = omega arith; even_below = λ e. omega arith; even_above = λ e. omega arith })
            | no m ↦
                rw (le-ltb (2 * r) b (omega arith), le-ltb b (2 * r) (omega arith)) (tie q r is (omega arith) more)
          ]
    ]
  where
    tie : (q r : ℕ) → q * b + r ≡ a → 2 * r ≡ b → (q + 1) * b ≡ q * b + b → Beside a b (q + q % 2)
    tie q r is e more =
        elim (ℕ_discrete (q % 2) 0) [
          | yes z ↦
              let w : q + q % 2 ≡ q = omega arith in
              rw w (record { below = omega arith; above = omega arith; even_below = λ f. z; even_above = λ f. z })
          | no z ↦
              let w : q + q % 2 ≡ q + 1 = omega arith in
              rw w (record { below = omega arith; above = omega arith; even_below = λ f. omega arith; even_above = λ f. omega arith })
        ]

-- Of two different numbers both a half away one is odd.
not-both : (a b c d : ℕ) → 0 < b → Beside a b c → Beside a b d → c < d → ⊥
not-both a b c d h p q l =
    let far : suc c * b ≤ d * b = mul-le-mul_right b l in
    let step : suc c * b ≡ c * b + b = suc-mul c b in
    let up_to : 2 * a ≡ 2 * (c * b) + b = omega (arith, p.below, q.above) in
    let down_to : 2 * (d * b) ≡ 2 * a + b = omega (arith, p.below, q.above) in
    let next : d ≡ suc c = eq_of_mul-eq-mul_right b h d (suc c) (omega arith) in
    omega (arith, p.even_below up_to, q.even_above down_to)

beside_only : (a b c : ℕ) → 0 < b → Beside a b c → c ≡ nearest a b
beside_only a b c h p =
    let q = nearest_beside a b h in
    elim (dec_lt c (nearest a b)) [
      | yes l ↦ absurd (not-both a b c (nearest a b) h p q l)
      | no l ↦
          elim (dec_lt (nearest a b) c) [
            | yes m ↦ absurd (not-both a b (nearest a b) c h q p m)
            | no m ↦ omega arith
          ]
    ]

-- ---- fractions of either sign

-- how far k is from ± a / b, times b
abbrev pub away : Bool → ℕ → ℕ → ℤ → ℕ
away s a b k = nat_abs (k *ℤ pos b -ℤ signed s a)

-- k is at most a half away from ± a / b, for a b above 0, and even where it is a half away
pub record Nearest (s : Bool) (a b : ℕ) (k : ℤ) : Type 0 where
  pub close : away s a b k * 2 ≤ b
  pub even : away s a b k * 2 ≡ b → nat_abs k % 2 ≡ 0

abs_signed : (s : Bool) (c : ℕ) → nat_abs (signed s c) ≡ c
abs_signed false c = refl
abs_signed true zero = refl
abs_signed true (suc c) = refl

-- a whole number has the sign s, or the other and is not 0
data Side (s : Bool) (k : ℤ) : Type 0 where
  same : (c : ℕ) → k ≡ signed s c → Side s k
  other : (c : ℕ) → k ≡ signed (not s) (suc c) → Side s k

side : (s : Bool) (k : ℤ) → Side s k
side false (pos n) = same n refl
side false (negsuc n) = other n refl
side true (pos zero) = same 0 refl
side true (pos (suc n)) = other n refl
side true (negsuc n) = same (suc n) refl

-- the distance of two numbers, one of the two differences being 0
apart : (x y : ℕ) → nat_abs (pos x -ℤ pos y) ≡ x - y + (y - x)
apart x zero = omega arith
apart x (suc y) = go (ltb x (suc y)) refl
  where
    go : (t : Bool) → ltb x (suc y) ≡ t → nat_abs (cond t (negsuc (suc y - suc x)) (pos (x - suc y))) ≡ x - suc y + (suc y - x)
    go true e = omega (arith, ltb-true x (suc y) e)
    go false e = omega (arith, ltb-false x (suc y) e)

minus-times : (c b : ℕ) → neg_ℤ (pos c) *ℤ pos b ≡ neg_ℤ (pos (c * b))
minus-times zero b = rw zero-mul
minus-times (suc c) b = refl

-- how far a number of the same sign is away, and one of the other sign
away-same : (s : Bool) (a b c : ℕ) → away s a b (signed s c) ≡ c * b - a + (a - c * b)
away-same false a b c = apart (c * b) a
away-same true a b c =
    ap (λ (z : ℤ). nat_abs (z -ℤ neg_ℤ (pos a))) (minus-times c b)
    ∙ ap (λ (z : ℤ). nat_abs (neg_ℤ (pos (c * b)) +ℤ z)) (neg_ℤ-neg_ℤ (pos a))
    ∙ ap nat_abs (+ℤ_comm (neg_ℤ (pos (c * b))) (pos a))
    ∙ apart a (c * b)
    ∙ omega arith

away-other : (s : Bool) (a b c : ℕ) → away s a b (signed (not s) (suc c)) ≡ suc c * b + a
away-other false a b c = ap (λ (z : ℤ). nat_abs (z -ℤ pos a)) (minus-times (suc c) b) ∙ minus-both (suc c * b) a
  where
    minus-both : (x y : ℕ) → nat_abs (neg_ℤ (pos x) -ℤ pos y) ≡ x + y
    minus-both x y = ap nat_abs (sym (neg_ℤ-+ℤ (pos x) (pos y))) ∙ abs_signed true (x + y)
away-other true a b c = ap (λ (z : ℤ). nat_abs (pos (suc c * b) +ℤ z)) (neg_ℤ-neg_ℤ (pos a))

-- a number of the other sign is more than a half away
far : (s : Bool) (a b c : ℕ) → b ≤ away s a b (signed (not s) (suc c))
far s a b c = omega (arith, away-other s a b c, suc-mul c b)

-- The definition's number has this,
pub nearest_is : (s : Bool) (a b : ℕ) → 0 < b → Nearest s a b (signed s (nearest a b))
nearest_is s a b h =
    let q = nearest a b in
    let p = nearest_beside a b h in
    let d = away-same s a b q in record {
      close = omega (arith, p.below, p.above);
      even = λ e. abs_even (elim (dec_lt a (q * b)) [ yes l ↦ p.even_above (omega arith) | no l ↦ p.even_below (omega arith) ]);
    }
  where
    abs_even : nearest a b % 2 ≡ 0 → nat_abs (signed s (nearest a b)) % 2 ≡ 0
    abs_even e = rw abs_signed e

-- and no other number does.
pub nearest_only : (s : Bool) (a b : ℕ) (k : ℤ) → 0 < b → Nearest s a b k → k ≡ signed s (nearest a b)
nearest_only s a b k h w = elim (side s k) [ same c e ↦ on c e | other c e ↦ absurd (off c e) ]
  where
    on : (c : ℕ) → k ≡ signed s c → k ≡ signed s (nearest a b)
    on c e =
        let d = away-same s a b c in
        let v : Nearest s a b (signed s c) = rw (← e) w in
        let even : away s a b (signed s c) * 2 ≡ b → c % 2 ≡ 0 = λ f. omega (arith, abs_signed s c, v.even f) in
        let p : Beside a b c = record {
          below = omega (arith, v.close);
          above = omega (arith, v.close);
          even_below = λ f. even (omega arith);
          even_above = λ f. even (omega arith);
        } in
        e ∙ ap (signed s) (beside_only a b c h p)

    off : (c : ℕ) → k ≡ signed (not s) (suc c) → ⊥
    off c e =
        let v : Nearest s a b (signed (not s) (suc c)) = rw (← e) w in
        omega (arith, v.close, far s a b c)

-- It is nearest: no whole number is less far away.
pub nearest-least : (s : Bool) (a b : ℕ) (k j : ℤ) → 0 < b → Nearest s a b k → away s a b k ≤ away s a b j
nearest-least s a b k j h w = elim (side s j) [ same c e ↦ on c e | other c e ↦ off c e ]
  where
    off : (c : ℕ) → j ≡ signed (not s) (suc c) → away s a b k ≤ away s a b j
    off c e = rw e (omega (arith, far s a b c, w.close))

    on : (c : ℕ) → j ≡ signed s c → away s a b k ≤ away s a b j
    on c e =
        let q = nearest a b in
        let p = nearest_beside a b h in
        rw (e, nearest_only s a b k h w, away-same s a b c, away-same s a b q) (
        elim (dec_lt c q) [
          | yes l ↦
              let m : suc c * b ≤ q * b = mul-le-mul_right b l in
              omega (arith, suc-mul c b, p.above, p.below)
          | no l ↦
              elim (dec_lt q c) [
                | yes g ↦
                    let m : suc q * b ≤ c * b = mul-le-mul_right b g in
                    omega (arith, suc-mul q b, p.above, p.below)
                | no g ↦
                    let z : c ≡ q = omega arith in
                    rw z (omega arith)
              ]
        ]
        )

-- ---- It goes by the fraction: a / b and c / d with a * d = c * b have the same nearest number.
module _ (a b c d : ℕ) (same : a * d ≡ c * b) (pb : 0 < b) (pd : 0 < d) where
  -- 2 * q * b + b, 2 * q * b and 2 * a + b, as parts of b, are the like as parts of d
  module _ (q : ℕ) where
    abbrev over : ℕ → ℕ
    over z = 2 * (q * z) + z

    twice : 2 * a * d ≡ 2 * c * b
    twice = omega (arith, mul_assoc 2 a d, mul_assoc 2 c b)

    steps : 2 * (q * b) * d ≡ 2 * (q * d) * b
    steps = omega (arith, mul_assoc 2 (q * b) d, mul_assoc 2 (q * d) b, mul_right_comm q b d)

    over-same : over b * d ≡ over d * b
    over-same = omega (arith, add-mul (2 * (q * b)) b d, add-mul (2 * (q * d)) d b, mul_comm b d, steps)

    half-same : (2 * a + b) * d ≡ (2 * c + d) * b
    half-same = omega (arith, add-mul (2 * a) b d, add-mul (2 * c) d b, mul_comm b d, twice)

    beside_same : Beside a b q → Beside c d q
    beside_same p = record {
      below = le_of_mul-le-mul_right (omega (arith, mul-le-mul_right d p.below, twice, over-same)) pb;
      above = le_of_mul-le-mul_right (omega (arith, mul-le-mul_right d p.above, steps, half-same)) pb;
      even_below = λ e. p.even_below (eq_of_mul-eq-mul_right d pd (2 * a) (over b) (twice ∙ ap (λ (z : ℕ). z * b) e ∙ sym over-same));
      even_above = λ e. p.even_above (eq_of_mul-eq-mul_right d pd (2 * (q * b)) (2 * a + b) (steps ∙ ap (λ (z : ℕ). z * b) e ∙ sym half-same));
    }

  pub nearest-same : nearest a b ≡ nearest c d
  nearest-same = beside_only c d (nearest a b) pd (beside_same (nearest a b) (nearest_beside a b pb))

-- ---- its size

-- at most c, for a fraction that is at most c
pub nearest_most : (a b c : ℕ) → 0 < b → a ≤ c * b → nearest a b ≤ c
nearest_most a b c h l =
    let p = nearest_beside a b h in
    let e : nearest a b < suc c = lt_of_mul-lt-mul_right b (omega (arith, suc-mul c b, p.above)) in
    omega arith

pub nearest-size : (s : Bool) (a b c : ℕ) → 0 < b → a ≤ c * b → nat_abs (signed s (nearest a b)) ≤ c
nearest-size s a b c h l = rw abs_signed (nearest_most a b c h l)

-- 0 below a half
pub nearest_small : (a b : ℕ) → 2 * a < b → nearest a b ≡ 0
nearest_small a b l =
    sym (beside_only a b 0 (omega arith) (record { below = omega arith; above = omega (arith, zero-mul b); even_below = λ e. refl; even_above = λ e. refl }))

-- ---- By one sum and one division: just under a half is added, or a whole half where the whole part is odd, and the rest is dropped.
pub nearest_carried : (a h : ℕ) → 0 < h → (a + (h - 1 + a / (2 * h) % 2)) / (2 * h) ≡ nearest a (2 * h)
unfolding nearest
nearest_carried a h p =
    let q = a / (2 * h) in
    let r = a % (2 * h) in
    let is : a + (h - 1 + q % 2) ≡ q * (2 * h) + (r + (h - 1 + q % 2)) = omega (arith, div-add-mod' a (2 * h)) in
    ap (λ (x : ℕ). x / (2 * h)) is ∙ mul-add-div_right (omega arith) q (r + (h - 1 + q % 2)) ∙ carried q r (mod-lt a (omega arith))
  where
    none : (q r : ℕ) → r + (h - 1 + q % 2) < 2 * h → (r + (h - 1 + q % 2)) / (2 * h) ≡ 0
    none q r l = div-eq_of_lt l

    one : (q r : ℕ) → r < 2 * h → 2 * h ≤ r + (h - 1 + q % 2) → (r + (h - 1 + q % 2)) / (2 * h) ≡ 1
    one q r s l = div-eq_of_lt-le {k = 1} (2 * h) (omega (arith, one-mul (2 * h))) (omega arith)

    on_tie : (q r : ℕ) → r ≡ h → (r + (h - 1 + q % 2)) / (2 * h) ≡ q % 2
    on_tie q r e =
        elim (ℕ_discrete (q % 2) 0) [
          | yes z ↦ none q r (omega arith) ∙ sym z
          | no z ↦ one q r (omega arith) (omega arith) ∙ omega arith
        ]

    carried : (q r : ℕ) → r < 2 * h →
        q + (r + (h - 1 + q % 2)) / (2 * h) ≡ cond (ltb (2 * r) (2 * h)) q (cond (ltb (2 * h) (2 * r)) (q + 1) (q + q % 2))
    carried q r s =
        elim (dec_lt r h) [
          | yes l ↦ rw (lt-ltb (2 * r) (2 * h) (omega arith), none q r (omega arith)) (omega arith)
          | no l ↦
              elim (dec_lt h r) [
                | yes m ↦ rw (le-ltb (2 * r) (2 * h) (omega arith), lt-ltb (2 * h) (2 * r) (omega arith), one q r s (omega arith))
                | no m ↦ rw (le-ltb (2 * r) (2 * h) (omega arith), le-ltb (2 * h) (2 * r) (omega arith), on_tie q r (omega arith))
              ]
        ]
