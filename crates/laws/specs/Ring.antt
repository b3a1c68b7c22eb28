-- Signed numbers beyond what is linear: tests of order, products, and when an area number is positive. Assumes nothing.
use Rattle.std.specs.Prelude.{ℕ, suc, ◌+◌, ◌*◌, ◌-◌, ◌<◌, ◌≡◌, refl, ℤ, pos, negsuc, ◌+ℤ◌, ◌-ℤ◌, ◌*ℤ◌, T, ◌≤ℤ◌, ◌<ℤ◌, Bool, true, false}
use Rattle.std.proofs.Common.{ap, arith}
use Rattle.std.specs.Int.Signed.{le_z, clash_ℤ}
use Rattle.std.proofs.Math.Decide.{dec_le}
use Rattle.laws.specs.Lists.{untrue, clash}
use Rattle.laws.specs.Integers.{up, dn, int, ≤z, zneg, zpos, z+, z-}

-- ---- tests of order: what starts with `le_z` opens a test, what ends with it closes one

pub le_z-true : (a b : ℤ) → le_z a b ≡ true → a ≤ℤ b
le_z-true a b e = record { le = rw e tt }

pub le-le_z : (a b : ℤ) → a ≤ℤ b → le_z a b ≡ true
le-le_z a b h = go (le_z a b) h.le
  where
    go : (t : Bool) → T t → t ≡ true
    go true h = refl
    go false h = absurd h

pub le_z-false : (a b : ℤ) → le_z a b ≡ false → b <ℤ a
le_z-false a b e =
    elim (dec_le (up a + dn b) (up b + dn a)) [
      | yes h ↦ clash (le-le_z a b (≤z a b h)) e
      | no h ↦ omega int
    ]

pub lt-le_z : (a b : ℤ) → b <ℤ a → le_z a b ≡ false
lt-le_z a b h = untrue (le_z a b) (λ e. clash_ℤ h (le_z-true a b e))

-- ---- products

-- a product, in positive and negative parts
pub z* : (a b : ℤ) → up (a *ℤ b) + up a * dn b + dn a * up b ≡ up a * up b + dn a * dn b + dn (a *ℤ b)
unfolding up dn
z* (pos a) (pos b) = omega arith
z* (pos a) (negsuc b) = omega (arith, zneg (pos (a * suc b)), zpos (a * suc b))
z* (negsuc a) (pos b) = omega (arith, zneg (pos (suc a * b)), zpos (suc a * b))
z* (negsuc a) (negsuc b) = omega arith

-- over naturals, with what is missing to each strict order named
grown : (a y p q e : ℕ) → a + suc e ≡ y + suc p + suc q → a * y < (y + suc p) * (y + suc q)
grown a y p q e h = omega (arith, ap (λ x. x * y) h)

-- with y below both z and w, and a + y below their sum, a y is below z w
smaller : (a y z w : ℕ) → y < z → y < w → a + y < z + w → a * y < z * w
smaller a y z w h k l =
    let p = z - suc y in
    let q = w - suc y in
    let ez : z ≡ y + suc p = omega arith in
    let ew : w ≡ y + suc q = omega arith in
    let s : a + suc (z + w - suc (a + y)) ≡ y + suc p + suc q = omega arith in
    rw (ez, ew) (grown a y p q (z + w - suc (a + y)) s)

-- X Y - Z W, with X and W negative, Z positive, Y less than Z, and W + Y less than 0 and than X + Z
pub area-positive : (X Y Z W : ℤ) → X <ℤ pos 0 → W <ℤ pos 0 → pos 0 <ℤ Z → Y <ℤ Z → (W +ℤ Y) <ℤ pos 0 → (W +ℤ Y) <ℤ (X +ℤ Z) →
    pos 0 <ℤ (X *ℤ Y -ℤ Z *ℤ W)
unfolding up dn
area-positive (pos x) Y Z W hx hw hz hy h k = absurd (omega int)
area-positive (negsuc x) Y Z (pos w) hx hw hz hy h k = absurd (omega int)
area-positive (negsuc x) Y (negsuc z) (negsuc w) hx hw hz hy h k = absurd (omega int)
area-positive (negsuc x) (pos y) (pos z) (negsuc w) hx hw hz hy h k =
    let l : y < suc w = omega (int, z+ (negsuc w) (pos y)) in
    let m : suc x + y < z + suc w = omega (int, z+ (negsuc w) (pos y), z+ (negsuc x) (pos z)) in
    omega (int, z* (negsuc x) (pos y), z* (pos z) (negsuc w), z- (negsuc x *ℤ pos y) (pos z *ℤ negsuc w), smaller (suc x) y z (suc w) (omega int) l m)
area-positive (negsuc x) (negsuc y) (pos z) (negsuc w) hx hw hz hy h k =
    omega (int, z* (negsuc x) (negsuc y), z* (pos z) (negsuc w), z- (negsuc x *ℤ negsuc y) (pos z *ℤ negsuc w))
