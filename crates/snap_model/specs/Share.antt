-- Snapping of a share. Of the definition: its whole number is the one nearest to share × 2 ^ r, of two that are equally near the even one. From the bits:
-- which shares are refused, and the whole number of any other. Assumes nothing.
use Rattle.std.specs.Prelude.{ℕ, zero, suc, ◌+◌, ◌-◌, ◌*◌, ◌%◌, ◌^◌, ◌≤◌, ◌<◌, ◌≡◌, Bool, true, false, ◌&&◌, ◌||◌, cond, eqb, leb, ltb, ℤ, pos, nat_abs, Float}
use Rattle.std.proofs.Common.{mul_assoc, mul_right_comm, mul-one, mul-le-mul, mul-le-mul_right, le_trans, le_of_eq, mod-lt, le_of_mul-le-mul_right, arith, sym, ap, ◌∙◌, subst, true≢false, lit<, le→leb, pow-add, pow_pos, pow_mono, shl_lt, leb-true, leb-false, lt-ltb, le-ltb, le-leb, eq-eqb, ne_eqb}
use Rattle.std.proofs.Math.Nat.{pow-succ'}
use Rattle.std.proofs.Math.Decide.{dec_le, ℕ_discrete}
use Rattle.std.proofs.Math.Path.{refl}
use Rattle.std.specs.Float.Ieee.{nan, up, down, top, hid, of_bits, lt, eq, le}
use Rattle.std.specs.Float.{inf, fin, binary64}
use Rattle.std.specs.Float.Ieee.Fits.{down_pos}
use Rattle.std.specs.Float.Ieee.Exact.{HasValue}
use Rattle.std.proofs.lemmas.Bool.{lt-leb}
use Rattle.definitions.specs.Answers.{Refusal, numbered, share_outside}
use Rattle.definitions.specs.DrawnPoints.{nearest, signed, whole, not_finite, beyond, snap}
use Rattle.snap_model.specs.Nearest.{away, Nearest, nearest_is, nearest_only, nearest-least, nearest-same, nearest-size, nearest_small}
use Rattle.snap_model.specs.Bits.{units, units_of, units_few, negative, field, value, Special, no_number, infinite, special}

-- ---- the definition

-- k is at most a half away from share × 2 ^ r, and even where it is a half away. A finite share is ± m * 2 ^ e, and all is multiplied by down e, which is
-- 1 for e ≥ 0 and 2 ^ - e else.
abbrev pub NearestTo : ℕ → Float → ℤ → Type 0
NearestTo r nan k = ⊥
NearestTo r (inf s) k = ⊥
NearestTo r (fin s m e) k = Nearest s (m * up e * 2 ^ r) (down e) k

-- A finite share from -2 to 2 becomes a whole number,
pub snap-inside : (r : ℕ) (s : Bool) (m : ℕ) (e : ℤ) → m * up e ≤ 2 * down e
    → snap r (fin s m e) ≡ whole (signed s (nearest (m * up e * 2 ^ r) (down e)))
unfolding snap
snap-inside r s m e h = rw (le-ltb (2 * down e) (m * up e) h)

-- and any other finite share is refused with itself.
pub snap_outside : (r : ℕ) (s : Bool) (m : ℕ) (e : ℤ) → 2 * down e < m * up e → snap r (fin s m e) ≡ beyond (fin s m e)
unfolding snap
snap_outside r s m e h = rw (lt-ltb (2 * down e) (m * up e) h)

not-whole : (k : ℤ) → not_finite ≡ whole k → ⊥
not-whole k h = let z : ◌≡◌ {A = ℕ} 0 1 = cc in omega arith

apart : (x : Float) (k : ℤ) → beyond x ≡ whole k → ⊥
apart x k h = let z : ◌≡◌ {A = ℕ} 0 1 = cc in omega arith

snap_small : (r : ℕ) (s : Bool) (m : ℕ) (e k : ℤ) → snap r (fin s m e) ≡ whole k → m * up e ≤ 2 * down e
snap_small r s m e k h =
    elim (dec_le (m * up e) (2 * down e)) [
      | yes l ↦ l
      | no l ↦ absurd (apart (fin s m e) k (sym (snap_outside r s m e (omega arith)) ∙ h))
    ]

snap_is : (r : ℕ) (s : Bool) (m : ℕ) (e k : ℤ) → snap r (fin s m e) ≡ whole k → k ≡ signed s (nearest (m * up e * 2 ^ r) (down e))
snap_is r s m e k h = cc (snap-inside r s m e (snap_small r s m e k h))

-- What a share becomes is nearest to share × 2 ^ r,
pub snap-nearest : (r : ℕ) (x : Float) (k : ℤ) → snap r x ≡ whole k → NearestTo r x k
snap-nearest r nan k h = not-whole k (unfold snap in h)
snap-nearest r (inf s) k h = not-whole k (unfold snap in h)
snap-nearest r (fin s m e) k h = rw (snap_is r s m e k h) (nearest_is s (m * up e * 2 ^ r) (down e) (down_pos e))

-- and is the only whole number that is.
pub snap_only : (r : ℕ) (x : Float) (k j : ℤ) → snap r x ≡ whole k → NearestTo r x j → j ≡ k
snap_only r nan k j h w = absurd w
snap_only r (inf s) k j h w = absurd w
snap_only r (fin s m e) k j h w =
    nearest_only s (m * up e * 2 ^ r) (down e) j (down_pos e) w ∙ sym (snap_is r s m e k h)

-- So a share from -2 to 2 becomes exactly one whole number k: at most a half away from share × 2 ^ r and even where it is a half away, which no other
-- number is; and no whole number is less far away.
pub snap_exact : (r : ℕ) (s : Bool) (m : ℕ) (e : ℤ) → m * up e ≤ 2 * down e
    → (k : ℤ)
    × (snap r (fin s m e) ≡ whole k)
    × NearestTo r (fin s m e) k
    × ((j : ℤ) → NearestTo r (fin s m e) j → j ≡ k)
    × ((j : ℤ) → away s (m * up e * 2 ^ r) (down e) k ≤ away s (m * up e * 2 ^ r) (down e) j)
snap_exact r s m e h =
    let k = signed s (nearest (m * up e * 2 ^ r) (down e)) in
    let is = snap-inside r s m e h in
    let near = snap-nearest r (fin s m e) k is in (
      k,
      is,
      near,
      (λ j w. snap_only r (fin s m e) k j is w),
      (λ j. nearest-least s (m * up e * 2 ^ r) (down e) k j (down_pos e) near),
    )

-- ---- by any other way to write the share as a fraction

-- A share of a / c, at most 2 in size
pub snap-value : (r : ℕ) (x : Float) (s : Bool) (a c : ℕ) → 0 < c → HasValue x s a c → a ≤ 2 * c →
    snap r x ≡ whole (signed s (nearest (a * 2 ^ r) c))
snap-value r nan s a c h v l = absurd v
snap-value r (inf t) s a c h v l = absurd v
snap-value r (fin t m e) s a c h v l =
    let b = m * up e in
    let d = down e in
    let p = 2 ^ r in
    let small : b * c ≤ 2 * d * c = omega (arith, v.1, mul-le-mul_right d l, mul_right_comm 2 c d) in
    let same : b * p * c ≡ a * p * d = mul_right_comm b p c ∙ ap (λ (z : ℕ). z * p) v.1 ∙ mul_right_comm a d p in
    snap-inside r t m e (le_of_mul-le-mul_right small h)
    ∙ ap whole (ap (signed t) (nearest-same (b * p) d (a * p) c same (down_pos e) h) ∙ ap (λ (z : Bool). signed z (nearest (a * p) c)) v.0)

-- ---- the tests on a share

-- no number, or infinite
unfoldable pub endless : Float → Bool
endless nan = true
endless (inf s) = true
endless (fin s m e) = false

-- compared with -2 and 2, which no infinity passes and nothing that is no number
unfoldable pub inside : Float → Bool
inside x = le (fin true 1 (pos 1)) x && le x (fin false 1 (pos 1))

-- 15, and of a finite share 16
pub snap-endless : (r : ℕ) (x : Float) → endless x ≡ true → snap r x ≡ not_finite
unfolding endless
snap-endless r nan h = unfold snap in refl
snap-endless r (inf s) h = unfold snap in refl
snap-endless r (fin s m e) h = absurd (true≢false (sym h))

-- less or equal, in the words of `le`
at_most : (a b : ℕ) (same : Bool) → same ≡ eqb a b → (ltb a b || same && true) ≡ leb a b
at_most a b same s =
    elim (dec_le a b) [
      | yes l ↦
          elim (dec_le b a) [
            | yes m ↦
                let e : a ≡ b = omega arith in
                rw (s, le-ltb a b m, eq-eqb a b e, le-leb a b l)
            | no m ↦ rw (lt-ltb a b (omega arith), le-leb a b l)
          ]
      | no l ↦
          let m : b < a = omega arith in
          rw (s, le-ltb a b (omega arith), ne_eqb a b (λ e. omega arith), lt-leb a b m)
    ]

-- of a finite share, `inside` is the definition's own test
inside-fin : (s : Bool) (m : ℕ) (e : ℤ) → inside (fin s m e) ≡ leb (m * up e) (2 * down e)
unfolding inside le lt eq
inside-fin false m e =
    rw (mul-one (m * up e), lt-ltb 0 (2 * down e + m * up e) (omega (arith, down_pos e))) (at_most (m * up e) (2 * down e) (eqb (m * up e) (2 * down e)) refl)
inside-fin true m e =
    rw (mul-one (m * up e), lt-ltb 0 (m * up e + 2 * down e) (omega (arith, down_pos e)))
    (and_true _ ∙ at_most (m * up e) (2 * down e) (eqb (2 * down e) (m * up e)) (eqb-back (2 * down e) (m * up e)))
  where
    and_true : (b : Bool) → (b && true) ≡ b
    and_true true = refl
    and_true false = refl

    eqb-back : (a b : ℕ) → eqb a b ≡ eqb b a
    eqb-back a b =
        elim (ℕ_discrete a b) [
          | yes e ↦ rw e
          | no e ↦ ne_eqb a b e ∙ sym (ne_eqb b a (λ (f : b ≡ a). e (sym f)))
        ]

pub inside_finite : (x : Float) → inside x ≡ true → endless x ≡ false
unfolding inside le lt eq endless
inside_finite nan h = absurd (true≢false (sym h))
inside_finite (inf false) h = absurd (true≢false (sym h))
inside_finite (inf true) h = absurd (true≢false (sym h))
inside_finite (fin s m e) h = refl

pub snap_far : (r : ℕ) (x : Float) → endless x ≡ false → inside x ≡ false → snap r x ≡ beyond x
unfolding endless
snap_far r nan h t = absurd (true≢false h)
snap_far r (inf s) h t = absurd (true≢false h)
snap_far r (fin s m e) h t = snap_outside r s m e (leb-false (m * up e) (2 * down e) (sym (inside-fin s m e) ∙ t))

-- So a share that passes becomes a whole number.
pub passing_whole : (r : ℕ) (x : Float) → inside x ≡ true → (k : ℤ) × (snap r x ≡ whole k)
passing_whole r nan h = absurd (true≢false (unfold endless in inside_finite nan h))
passing_whole r (inf s) h = absurd (true≢false (unfold endless in inside_finite (inf s) h))
passing_whole r (fin s m e) h =
    (signed s (nearest (m * up e * 2 ^ r) (down e)), snap-inside r s m e (leb-true (m * up e) (2 * down e) (sym (inside-fin s m e) ∙ h)))

-- Why a share that does not pass is refused: 15 goes before 16.
unfoldable pub refusal : Float → Refusal
unfolding endless
refusal x = cond (endless x) (numbered 15) (share_outside x)

at_most_two : (b d a c : ℕ) → 0 < d → b * c ≡ a * d → b ≤ 2 * d → a ≤ 2 * c
at_most_two b d a c h e l = le_of_mul-le-mul_right (omega (arith, mul-le-mul_right c l, mul_right_comm 2 c d)) h

-- a share that is inside is at most 2 in size
near : (x : Float) (s : Bool) (a c : ℕ) → HasValue x s a c → inside x ≡ true → a ≤ 2 * c
near nan s a c v h = absurd v
near (inf t) s a c v h = absurd v
near (fin t m e) s a c v h =
    at_most_two (m * up e) (down e) a c (down_pos e) v.1 (leb-true (m * up e) (2 * down e) (sym (inside-fin t m e) ∙ h))

-- ---- from the bits

-- 0x7ff0_0000_0000_0000 has the field of all ones and no digits: a pattern that is that much or more, but for its sign, is not finite.
pub endless_bits : (n : ℕ) → leb 0x7ff0_0000_0000_0000 (n % top binary64) ≡ endless (of_bits binary64 n)
endless_bits n =
    elim (dec_le 0x7ff0_0000_0000_0000 (n % top binary64)) [
      | yes h ↦ le-leb _ _ h ∙ sym (is_special (of_bits binary64 n) (special n (omega (arith, mod-lt n (lit< {m = 0} {n = top binary64} tt)))))
      | no h ↦ lt-leb 0x7ff0_0000_0000_0000 (n % top binary64) (omega arith) ∙ sym (has_value (of_bits binary64 n) (value n (omega arith)))
    ]
  where
    is_special : (x : Float) → Special x → endless x ≡ true
    is_special x no_number = unfold endless in refl
    is_special x (infinite s) = unfold endless in refl

    has_value : (x : Float) → HasValue x (negative n) (units n) (2 ^ 1074) → endless x ≡ false
    has_value nan v = absurd v
    has_value (inf s) v = absurd v
    has_value (fin s m e) v = unfold endless in refl

-- A pattern of at most 2 in size has a field of at most 1024.
pub field-inside : (n : ℕ) → units n ≤ 2 * 2 ^ 1074 → field n ≤ 1024
unfolding units
field-inside n h = go (field n) (n % hid binary64) h
  where
    too_much : 2 ^ 52 * 2 ^ 1024 ≤ 2 * 2 ^ 1074 → ⊥
    too_much h = le→leb (2 ^ 52 * 2 ^ 1024) (2 * 2 ^ 1074) h

    go : (x t : ℕ) → units_of x t ≤ 2 * 2 ^ 1074 → x ≤ 1024
    go zero t h = omega arith
    go (suc x) t h =
        elim (dec_le (suc x) 1024) [
          | yes l ↦ l
          | no l ↦
              let far : 1024 ≤ x = omega arith in
              let led : 2 ^ 52 ≤ hid binary64 + t = omega arith in
              let more : 2 ^ 52 * 2 ^ 1024 ≤ (hid binary64 + t) * 2 ^ x = mul-le-mul led (pow_mono far) in
              absurd (too_much (le_trans more h))
        ]

-- Digits q that count 2 ^ k units each, at scale r: the divisor that is left is 2 ^ d.
nearest-digits : (q k r d : ℕ) → k + r + d ≡ 1074 → nearest q (2 ^ d) ≡ nearest (q * 2 ^ k * 2 ^ r) (2 ^ 1074)
nearest-digits q k r d e = nearest-same q (2 ^ d) (q * 2 ^ k * 2 ^ r) (2 ^ 1074) same (pow_pos d) (pow_pos 1074)
  where
    same : q * 2 ^ 1074 ≡ q * 2 ^ k * 2 ^ r * 2 ^ d
    same =
        ap (λ (x : ℕ). q * 2 ^ x) (sym e)
        ∙ ap (λ (x : ℕ). q * x) (pow-add 2 (k + r) d ∙ ap (λ (x : ℕ). x * 2 ^ d) (pow-add 2 k r))
        ∙ sym (mul_assoc q (2 ^ k * 2 ^ r) (2 ^ d))
        ∙ ap (λ (x : ℕ). x * 2 ^ d) (sym (mul_assoc q (2 ^ k) (2 ^ r)))

-- Where there is a leading digit and the scale and the field are not small, the digits with the divisor that is left,
pub by_digits : (n r : ℕ) → r ≤ 24 → field n ≤ 1024 → 1022 ≤ field n + r
    → nearest (hid binary64 + n % hid binary64) (2 ^ (1075 - field n - r)) ≡ nearest (units n * 2 ^ r) (2 ^ 1074)
unfolding units
by_digits n r h l m = go (field n) (n % hid binary64) l m
  where
    go : (x t : ℕ) → x ≤ 1024 → 1022 ≤ x + r → nearest (hid binary64 + t) (2 ^ (1075 - x - r)) ≡ nearest (units_of x t * 2 ^ r) (2 ^ 1074)
    go zero t l m = absurd (omega arith)
    go (suc x) t l m = nearest-digits (hid binary64 + t) x r (1075 - suc x - r) (omega arith)

-- and where they are small, less than a half.
pub less_than_half : (n r : ℕ) → field n + r < 1022 → nearest (units n * 2 ^ r) (2 ^ 1074) ≡ 0
less_than_half n r h =
    let few : units n * 2 ^ r < 2 ^ (52 + field n + r) = shl_lt (52 + field n) r (units_few n) in
    nearest_small (units n * 2 ^ r) (2 ^ 1074) (twice (units n * 2 ^ r) (52 + field n + r) 1074 few (omega arith))
  where
    twice : (a j k : ℕ) → a < 2 ^ j → j < k → 2 * a < 2 ^ k
    twice a j k h l =
        let more : 2 ^ suc j ≤ 2 ^ k = pow_mono l in
        omega (arith, pow-succ' 2 j)

-- The share x with the bits n, not refused: its field, and its whole number.
module _ (n : ℕ) (x : Float) (is : of_bits binary64 n ≡ x) (l : inside x ≡ true) where
  share-value : HasValue x (negative n) (units n) (2 ^ 1074)
  share-value =
      let t : leb 0x7ff0_0000_0000_0000 (n % top binary64) ≡ false = endless_bits n ∙ ap endless is ∙ inside_finite x l in
      let below : n % top binary64 < 0x7ff0_0000_0000_0000 = leb-false _ _ t in
      subst (λ (y : Float). HasValue y (negative n) (units n) (2 ^ 1074)) is (value n (omega arith))

  share-size : units n ≤ 2 * 2 ^ 1074
  share-size = near x (negative n) (units n) (2 ^ 1074) share-value l

  pub share-field : field n ≤ 1024
  share-field = field-inside n share-size

  pub share-whole : (r : ℕ) → snap r x ≡ whole (signed (negative n) (nearest (units n * 2 ^ r) (2 ^ 1074)))
  share-whole r = snap-value r x (negative n) (units n) (2 ^ 1074) (pow_pos 1074) share-value share-size

-- The whole number of a share is at most 2 × 2 ^ r in size, so at most 2 ^ 25.
pub snap-size : (r : ℕ) (x : Float) (k : ℤ) → snap r x ≡ whole k → nat_abs k ≤ 2 * 2 ^ r
snap-size r nan k h = absurd (not-whole k (unfold snap in h))
snap-size r (inf s) k h = absurd (not-whole k (unfold snap in h))
snap-size r (fin s m e) k h =
    let p = 2 ^ r in
    let l : m * up e * p ≤ 2 * p * down e = le_trans (mul-le-mul_right p (snap_small r s m e k h)) (le_of_eq (mul_right_comm 2 (down e) p)) in
    rw (snap_is r s m e k h) (nearest-size s (m * up e * p) (down e) (2 * p) (down_pos e) l)

pub snap_bound : (r : ℕ) (x : Float) (k : ℤ) → r ≤ 24 → snap r x ≡ whole k → nat_abs k ≤ 2 ^ 25
snap_bound r x k a h =
    let most : 2 ^ r ≤ 2 ^ 24 = pow_mono a in
    omega (arith, snap-size r x k h)
