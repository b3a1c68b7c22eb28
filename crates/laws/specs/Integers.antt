-- Signed numbers for `omega`: a whole number is the difference of two naturals, `up` and `dn`, of which omega proves what is linear. Assumes nothing.
-- `omega (int, z+ a b, z- c d)` proves a linear ≡, ≤ℤ or <ℤ over ℤ from such facts in reach: list `z+`, `z-` or `zneg` for each sum, difference or
-- negation in it (`z++` and `z--` for those of three numbers), `zpos k` for each literal `pos k`, and `zabs` for each absolute value. A fact of ℤ that is
-- not in reach is listed through `z≡`, `z≤`, `z<`.
use Rattle.std.specs.Prelude.{ℕ, zero, suc, ◌+◌, ◌-◌, ◌≤◌, ◌<◌, ◌≡◌, refl, Bool, true, false, cond, ltb, ℤ, pos, negsuc, neg_ℤ, nat_abs, ◌+ℤ◌, ◌-ℤ◌, ◌≤ℤ◌, ◌<ℤ◌}
use Rattle.std.proofs.Common.{ap, arith, ltb-true, ltb-false, leb→le, le→leb, ltb→lt, lt→ltb}

-- the positive and the negative part
unfoldable pub up : ℤ → ℕ
up (pos n) = n
up (negsuc n) = 0

unfoldable pub dn : ℤ → ℕ
dn (pos n) = 0
dn (negsuc n) = suc n

-- ---- equality and order, both ways

pub z≡ : (a b : ℤ) → a ≡ b → up a + dn b ≡ up b + dn a
z≡ a b e = omega (arith, ap up e, ap dn e)

pub ≡z : (a b : ℤ) → up a + dn b ≡ up b + dn a → a ≡ b
unfolding up dn
≡z (pos a) (pos b) e = let h : a ≡ b = omega arith in ap pos h
≡z (pos a) (negsuc b) e = absurd (omega arith)
≡z (negsuc a) (pos b) e = absurd (omega arith)
≡z (negsuc a) (negsuc b) e = let h : a ≡ b = omega arith in ap negsuc h

pub z≤ : (a b : ℤ) → a ≤ℤ b → up a + dn b ≤ up b + dn a
unfolding up dn
z≤ (pos a) (pos b) h = omega (arith, leb→le a b h.le)
z≤ (pos a) (negsuc b) h = absurd h.le
z≤ (negsuc a) (pos b) h = omega arith
z≤ (negsuc a) (negsuc b) h = omega (arith, leb→le b a h.le)

pub ≤z : (a b : ℤ) → up a + dn b ≤ up b + dn a → a ≤ℤ b
unfolding up dn
≤z (pos a) (pos b) h = record { le = le→leb a b (omega arith) }
≤z (pos a) (negsuc b) h = absurd (omega arith)
≤z (negsuc a) (pos b) h = record { le = tt }
≤z (negsuc a) (negsuc b) h = record { le = le→leb b a (omega arith) }

pub z< : (a b : ℤ) → a <ℤ b → up a + dn b < up b + dn a
unfolding up dn
z< (pos a) (pos b) h = omega (arith, ltb→lt a b h.lt)
z< (pos a) (negsuc b) h = absurd h.lt
z< (negsuc a) (pos b) h = omega arith
z< (negsuc a) (negsuc b) h = omega (arith, ltb→lt b a h.lt)

pub <z : (a b : ℤ) → up a + dn b < up b + dn a → a <ℤ b
unfolding up dn
<z (pos a) (pos b) h = record { lt = lt→ltb a b (omega arith) }
<z (pos a) (negsuc b) h = absurd (omega arith)
<z (negsuc a) (pos b) h = record { lt = tt }
<z (negsuc a) (negsuc b) h = record { lt = lt→ltb b a (omega arith) }

pub ruleset int = (arith, z≡, ≡z, z≤, ≤z, z<, <z)

-- ---- the operations

pub zpos : (n : ℕ) → (up (pos n) ≡ n) × (dn (pos n) ≡ 0)
unfolding up dn
zpos n = (refl, refl)

pub zneg : (a : ℤ) → (up (neg_ℤ a) ≡ dn a) × (dn (neg_ℤ a) ≡ up a)
unfolding up dn
zneg (pos zero) = (refl, refl)
zneg (pos (suc n)) = (refl, refl)
zneg (negsuc n) = (refl, refl)

pub zabs : (a : ℤ) → nat_abs a ≡ up a + dn a
unfolding up dn
zabs (pos n) = omega arith
zabs (negsuc n) = omega arith

-- the difference of two naturals
zsub : (a b : ℕ) (t : Bool) → ltb a b ≡ t →
    up (cond t (negsuc (b - suc a)) (pos (a - b))) + b ≡ a + dn (cond t (negsuc (b - suc a)) (pos (a - b)))
unfolding up dn
zsub a b true e = omega (arith, ltb-true a b e)
zsub a b false e = omega (arith, ltb-false a b e)

pub z+ : (a b : ℤ) → up (a +ℤ b) + dn a + dn b ≡ up a + up b + dn (a +ℤ b)
unfolding up dn
z+ (pos a) (pos b) = omega arith
z+ (pos a) (negsuc b) = omega (arith, zsub a (suc b) (ltb a (suc b)) refl)
z+ (negsuc a) (pos b) = omega (arith, zsub b (suc a) (ltb b (suc a)) refl)
z+ (negsuc a) (negsuc b) = omega arith

pub z- : (a b : ℤ) → up (a -ℤ b) + dn a + up b ≡ up a + dn b + dn (a -ℤ b)
z- a b = omega (arith, z+ a (neg_ℤ b), zneg b)

-- of three numbers
pub z++ : (a b c : ℤ) → up (a +ℤ b +ℤ c) + dn a + dn b + dn c ≡ up a + up b + up c + dn (a +ℤ b +ℤ c)
z++ a b c = omega (arith, z+ a b, z+ (a +ℤ b) c)

pub z-- : (a b c : ℤ) → up (a -ℤ b -ℤ c) + dn a + up b + up c ≡ up a + dn b + dn c + dn (a -ℤ b -ℤ c)
z-- a b c = omega (arith, z- a b, z- (a -ℤ b) c)

-- ---- laws of ℤ, by omega

pub +-swap : (a b c d : ℤ) → (a +ℤ b) +ℤ (c +ℤ d) ≡ (a +ℤ c) +ℤ (b +ℤ d)
+-swap a b c d = omega (int, z+ a b, z+ c d, z+ a c, z+ b d, z+ (a +ℤ b) (c +ℤ d), z+ (a +ℤ c) (b +ℤ d))
