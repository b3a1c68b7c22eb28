-- The area number, the test for a bad triangle and the raise, by coordinates 0 and 1 of the vertices p, q, r at its corners labelled 0, 1, 2; that they are
-- the definitions', and how large the numbers on the way get where no coordinate is past the limit. Assumes nothing.
use Prim.Native.Nat.{ℕ, ◌+◌, ◌*◌, ◌^◌, ◌≤◌, ◌<◌, max}
use Rattle.std.specs.Prelude.{◌≡◌, Bool, false, List, length, pos, ◌+ℤ◌, ◌-ℤ◌, ◌*ℤ◌}
use Rattle.std.proofs.Common.{refl, ◌∙◌, inl, inr, arith, mul-le-mul, SFits, to_z, of_z, to_z-of_z}
use Rattle.std.proofs.Math.IntN.{ℤ, nat_abs}
use Rattle.std.proofs.lemmas.Int.{ints, fits_signed_from_abs}
use Rattle.std.specs.Int.Signed.{mag, le_z}
use Rattle.std.specs.Int.{w64, int_max}
use Rattle.definitions.specs.Backward.{coordinate}
use Rattle.definitions.specs.Repair.{limit, max_z, corner_coordinate, area, bad, deficit, raise}
use Rattle.definitions.specs.Refusals.{row10}
use Rattle.laws.specs.Integers.{int, z+, z-}
use Rattle.laws.specs.Lists.{tested}
use Rattle.laws.specs.Ring.{le_z-true, le-le_z, le_z-false, lt-le_z}
use Rattle.laws.specs.Sums.{abs-+}
use Rattle.int64.specs.Whole.{abs_minus, abs_times, held, held-size}
use Rattle.maps_limits.specs.Limits.{coordinate-range}
use Rattle.theory_realizer.specs.Units.{vertex_at}

-- vertex i has its three coordinates
abbrev pub CoordinatesIn : List ℤ → ℕ → Type 0
CoordinatesIn bs i = 3 * i + 2 < length bs

-- the growth of coordinate c from p to q, times that of coordinate e from p to r
unfoldable pub product_of : List ℤ → ℕ → ℕ → ℕ → ℕ → ℕ → ℤ
unfolding coordinate
product_of bs c e p q r = (coordinate bs c q -ℤ coordinate bs c p) *ℤ (coordinate bs e r -ℤ coordinate bs e p)

unfoldable pub area_of : List ℤ → ℕ → ℕ → ℕ → ℤ
unfolding product_of
area_of bs p q r = product_of bs 0 1 p q r -ℤ product_of bs 1 0 p q r

unfoldable pub bad_of : List ℤ → ℕ → ℕ → ℕ → Bool
unfolding area_of
bad_of bs p q r = le_z (area_of bs p q r) (pos 0)

unfoldable pub deficit_of : List ℤ → ℕ → ℕ → ℕ → ℕ → ℤ
unfolding coordinate max_z
deficit_of bs c i j k = max_z (coordinate bs c j) (coordinate bs c k) -ℤ coordinate bs c i

-- coordinates 0 and 1 together, and by how much that is more at j than at i
unfoldable pub sum_of : List ℤ → ℕ → ℤ
unfolding coordinate
sum_of bs i = coordinate bs 0 i +ℤ coordinate bs 1 i

unfoldable pub excess_of : List ℤ → ℕ → ℕ → ℤ
unfolding sum_of
excess_of bs i j = sum_of bs j -ℤ sum_of bs i

-- the lack of coordinate 2 at r, where the three coordinates of each vertex have the same sum
unfoldable pub last_deficit_of : List ℤ → ℕ → ℕ → ℕ → ℤ
unfolding excess_of max_z
last_deficit_of bs p q r = max_z (excess_of bs p r) (excess_of bs q r)

unfoldable pub raise_of : List ℤ → ℕ → ℕ → ℕ → ℤ
unfolding deficit_of last_deficit_of max_z
raise_of bs p q r = pos 1 +ℤ max_z (deficit_of bs 0 p q r) (max_z (deficit_of bs 1 q p r) (last_deficit_of bs p q r))

-- ---- they are the definitions'

-- coordinates 0 and 1 of vertex i are the same in both lists
pub record Agree (bs bs' : List ℤ) (i : ℕ) : Type 0 where
  pub first : coordinate bs 0 i ≡ coordinate bs' 0 i
  pub second : coordinate bs 1 i ≡ coordinate bs' 1 i

-- the greatest number less z is the greatest of the differences
less-max : (x y z a b : ℤ) → a ≡ x -ℤ z → b ≡ y -ℤ z → max_z a b ≡ max_z x y -ℤ z
unfolding max_z
less-max x y z a b ea eb =
    elim (tested (le_z x y)) [
      | inl e ↦
          let l = le_z-true x y e in
          rw (e, le-le_z a b (omega (int, z- x z, z- y z))) eb
      | inr e ↦
          let l = le_z-false x y e in
          rw (e, lt-le_z a b (omega (int, z- x z, z- y z))) ea
    ]

-- what is missing in one coordinate is what is too much in the two others
excess : (x0 x1 x2 y0 y1 y2 N : ℤ) → x0 +ℤ x1 +ℤ x2 ≡ N → y0 +ℤ y1 +ℤ y2 ≡ N → (y0 +ℤ y1) -ℤ (x0 +ℤ x1) ≡ x2 -ℤ y2
excess x0 x1 x2 y0 y1 y2 N e f =
    omega (int, z+ x0 x1, z+ (x0 +ℤ x1) x2, z+ y0 y1, z+ (y0 +ℤ y1) y2, z- (y0 +ℤ y1) (x0 +ℤ x1), z- x2 y2)

module _ (ts ls : List ℕ) (bs bs' : List ℤ) where
  pub bad_of_lem : (t : ℕ) → ((a : ℕ) → a < 3 → Agree bs bs' (vertex_at ts ls t a)) →
      bad_of bs (vertex_at ts ls t 0) (vertex_at ts ls t 1) (vertex_at ts ls t 2) ≡ bad ts ls bs' t
  unfolding bad_of area_of product_of bad area corner_coordinate
  bad_of_lem t same =
      let p = same 0 (omega arith) in
      let q = same 1 (omega arith) in
      let r = same 2 (omega arith) in
      rw (p.first, p.second, q.first, q.second, r.first, r.second)

  pub raise_of_lem : (N : ℤ) (t : ℕ) → ((a : ℕ) → a < 3 → Agree bs bs' (vertex_at ts ls t a)) →
      ((a : ℕ) → a < 3 → coordinate bs' 0 (vertex_at ts ls t a) +ℤ coordinate bs' 1 (vertex_at ts ls t a) +ℤ coordinate bs' 2
      (vertex_at ts ls t a) ≡ N) →
      raise_of bs (vertex_at ts ls t 0) (vertex_at ts ls t 1) (vertex_at ts ls t 2) ≡ raise ts ls bs' t
  unfolding raise_of deficit_of last_deficit_of excess_of sum_of raise deficit corner_coordinate
  raise_of_lem N t same total =
      let p = same 0 (omega arith) in
      let q = same 1 (omega arith) in
      let r = same 2 (omega arith) in
      let x : ℕ → ℤ = λ a. coordinate bs' a (vertex_at ts ls t 0) in
      let y : ℕ → ℤ = λ a. coordinate bs' a (vertex_at ts ls t 1) in
      let z : ℕ → ℤ = λ a. coordinate bs' a (vertex_at ts ls t 2) in
      let last = less-max (x 2) (y 2) (z 2) _ _ (excess (x 0) (x 1) (x 2) (z 0) (z 1) (z 2) N (total 0 (omega arith)) (total 2 (omega arith)))
      (excess (y 0) (y 1) (y 2) (z 0) (z 1) (z 2) N (total 1 (omega arith)) (total 2 (omega arith))) in
      rw (p.first, p.second, q.first, q.second, r.first, r.second, last)

-- ---- how large they get

-- the greater of two numbers is no further from 0 than both may be
pub abs_max : (a b : ℤ) (m : ℕ) → nat_abs a ≤ m → nat_abs b ≤ m → nat_abs (max_z a b) ≤ m
unfolding max_z
abs_max a b m h k = elim (tested (le_z a b)) [ inl e ↦ rw e k | inr e ↦ rw e h ]

module _ (ts ls : List ℕ) (bs : List ℤ) (t : ℕ) (e : row10 bs ≡ false) where
  deficit_small : (c a b : ℕ) → nat_abs (deficit ts ls bs t c a b) ≤ 2 * limit
  unfolding deficit corner_coordinate
  deficit_small c a b =
      let x = corner_coordinate ts ls bs c t a in
      let y = corner_coordinate ts ls bs c t b in
      let z = corner_coordinate ts ls bs c t c in
      let low : (i : ℕ) → nat_abs (corner_coordinate ts ls bs c t i) ≤ limit = λ i. coordinate-range bs e c (vertex_at ts ls t i) in
      omega (arith, abs_minus (max_z x y) z, abs_max x y limit (low a) (low b), low c)

  pub raise_small : nat_abs (raise ts ls bs t) ≤ 2 * limit + 1
  unfolding raise
  raise_small =
      let x = deficit ts ls bs t 0 1 2 in
      let y = deficit ts ls bs t 1 0 2 in
      let z = deficit ts ls bs t 2 0 1 in
      let m = abs_max x (max_z y z) (2 * limit) (deficit_small 0 1 2) (abs_max y z (2 * limit) (deficit_small 1 0 2) (deficit_small 2 0 1)) in
      omega (arith, abs-+ (pos 1) (max_z x (max_z y z)), m)

-- ---- sums, differences and products of them, as the code's operators give them from their bits

-- the number that the 64 bits of z stand for, which is z where that leaves room
abbrev pub stored : ℤ → ℤ
stored z = to_z w64 (of_z w64 z)

kept : (z : ℤ) → nat_abs z < 2 ^ 63 → stored z ≡ z
kept z h = to_z-of_z {w = w64} (fits_signed_from_abs w64 z h)

module _ (a b x y : ℤ) (m n : ℕ) (h : nat_abs a ≤ m) (k : nat_abs b ≤ n) (room : m + n < 2 ^ 63) (e : a ≡ x) (f : b ≡ y) where
  pub sum_is : stored (stored a +ℤ stored b) ≡ x +ℤ y
  sum_is = rw (kept a (omega arith), kept b (omega arith), kept (a +ℤ b) (omega (arith, abs-+ a b)), e, f)

  pub difference_is : stored (stored a -ℤ stored b) ≡ x -ℤ y
  difference_is = rw (kept a (omega arith), kept b (omega arith), kept (a -ℤ b) (omega (arith, abs_minus a b)), e, f)

module _ (a b : ℤ) (ha : nat_abs a ≤ limit) (hb : nat_abs b ≤ limit) where
  difference-size : nat_abs (a -ℤ b) ≤ 2 * limit
  difference-size = omega (arith, abs_minus a b)

  difference-bits : stored (stored a -ℤ stored b) ≡ a -ℤ b
  difference-bits = difference_is a b a b limit limit ha hb (omega arith) refl refl

module _ (a b c d : ℤ) (ha : nat_abs a ≤ limit) (hb : nat_abs b ≤ limit) (hc : nat_abs c ≤ limit) (hd : nat_abs d ≤ limit) where
  pub product-size : nat_abs ((a -ℤ b) *ℤ (c -ℤ d)) ≤ 4_611_686_009_837_453_316
  product-size =
      omega (arith, abs_times (a -ℤ b) (c -ℤ d), mul-le-mul (difference-size a b ha hb) (difference-size c d hc hd))

  product_fits : SFits w64 ((a -ℤ b) *ℤ (c -ℤ d))
  product_fits = fits_signed_from_abs w64 _ (omega (arith, product-size))

  pub product_bits_fit : SFits w64 (stored (stored a -ℤ stored b) *ℤ stored (stored c -ℤ stored d))
  product_bits_fit = rw (difference-bits a b ha hb, difference-bits c d hc hd) product_fits

  pub product-bits : stored (stored (stored a -ℤ stored b) *ℤ stored (stored c -ℤ stored d)) ≡ (a -ℤ b) *ℤ (c -ℤ d)
  product-bits = rw (difference-bits a b ha hb, difference-bits c d hc hd) (to_z-of_z {w = w64} product_fits)

-- the area number of three points within the limit
module _ (p0 p1 q0 q1 r0 r1 : ℤ) (hp0 : nat_abs p0 ≤ limit) (hp1 : nat_abs p1 ≤ limit) (hq0 : nat_abs q0 ≤ limit) (hq1 : nat_abs q1 ≤ limit)
    (hr0 : nat_abs r0 ≤ limit) (hr1 : nat_abs r1 ≤ limit) where
  abbrev first : ℤ
  first = stored (stored (stored q0 -ℤ stored p0) *ℤ stored (stored r1 -ℤ stored p1))

  abbrev second : ℤ
  second = stored (stored (stored q1 -ℤ stored p1) *ℤ stored (stored r0 -ℤ stored p0))

  pub area_fits : SFits w64 (first -ℤ second)
  area_fits =
      rw (product-bits q0 p0 r1 p1 hq0 hp0 hr1 hp1, product-bits q1 p1 r0 p0 hq1 hp1 hr0 hp0)
      (fits_signed_from_abs w64 _ (omega (
        arith,
        abs_minus ((q0 -ℤ p0) *ℤ (r1 -ℤ p1)) ((q1 -ℤ p1) *ℤ (r0 -ℤ p0)),
        product-size q0 p0 r1 p1 hq0 hp0 hr1 hp1,
        product-size q1 p1 r0 p0 hq1 hp1 hr0 hp0,
      )))

  pub area_is : stored (first -ℤ second) ≡ (q0 -ℤ p0) *ℤ (r1 -ℤ p1) -ℤ (q1 -ℤ p1) *ℤ (r0 -ℤ p0)
  area_is =
      to_z-of_z {w = w64} area_fits ∙ rw (product-bits q0 p0 r1 p1 hq0 hp0 hr1 hp1, product-bits q1 p1 r0 p0 hq1 hp1 hr0 hp0)

-- ---- the greater of two numbers, as the code's `max` gives it from their bits

module _ (a b r : ℤ) (e : r ≡ int_max (stored a) (stored b)) where
  greater : r ≡ max_z (stored a) (stored b)
  unfolding max_z
  greater = grind (arith, ints)

  pub max_is : (x y : ℤ) → mag a < 2 ^ 63 → mag b < 2 ^ 63 → a ≡ x → b ≡ y → r ≡ max_z x y
  max_is x y h k f g = greater ∙ rw (held a h, held b k, f, g)

  pub max-size : (m n : ℕ) → nat_abs a ≤ m → nat_abs b ≤ n → nat_abs r ≤ max m n
  max-size m n h k =
      let f = abs_max _ _ (max m n) (omega (arith, held-size a)) (omega (arith, held-size b)) in
      rw greater f

  pub deficit_is : (own : ℤ) → nat_abs own ≤ limit → nat_abs a ≤ limit → nat_abs b ≤ limit →
      stored (stored r -ℤ stored own) ≡ max_z a b -ℤ own
  deficit_is own h k l =
      difference_is r own (max_z a b) own limit limit (max-size limit limit k l) h (omega arith)
      (greater ∙ rw (kept a (omega arith), kept b (omega arith))) refl
