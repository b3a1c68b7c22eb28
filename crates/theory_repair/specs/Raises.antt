-- One raise: what it does to weights, their total, and coordinates; by its own raise or more a triangle is fully extended, and a bad one's is at least 1;
-- others that are extended stay so. Assumes nothing.
use Prim.Native.Nat.{ℕ, zero, suc, ◌+◌, ◌-◌, ◌/◌, ◌≤◌, ◌<◌}
use Rattle.std.specs.Prelude.{◌≡◌, refl, ◌≢◌, Bool, true, false, cond, List, ◌∷◌, length, get_or, set, ℤ, pos, ◌+ℤ◌, ◌-ℤ◌, ◌≤ℤ◌, ◌<ℤ◌}
use Rattle.std.proofs.Common.{ap, sym, ◌∙◌, inl, inr, arith, length-set, get_or-set_same, get_or-set_other}
use Rattle.std.specs.Int.Signed.{le_z, ≤ℤ_refl}
use Rattle.definitions.specs.Lists.{total}
use Rattle.definitions.specs.Mesh.{triangles_length, weights_length}
use Rattle.definitions.specs.Forward.{weight, forward}
use Rattle.definitions.specs.Repair.{corner_coordinate, bad, max_z, deficit, raise, add_to}
use Rattle.laws.specs.Integers.{int, zpos, z+, z-}
use Rattle.laws.specs.Lists.{tested, clash, total-set}
use Rattle.laws.specs.Ring.{le_z-true, le_z-false}
use Rattle.laws.specs.Sums.{sum_change}
use Rattle.theory_realizer.specs.Units.{Units, bit, vertex_at, same?}
use Rattle.theory_repair.specs.Parts.{is_part, is_part_most}
use Rattle.theory_repair.specs.Coordinates.{term}
use Rattle.theory_repair.specs.Areas.{Extended, good, value-sum, share-le, same-one}

-- ---- the greater of two

-- neither of two numbers exceeds the greater
pub max_z-left : (a b : ℤ) → a ≤ℤ max_z a b
unfolding max_z
max_z-left a b = elim (tested (le_z a b)) [ inl e ↦ rw e (le_z-true a b e) | inr e ↦ rw e (≤ℤ_refl a) ]

pub max_z_right : (a b : ℤ) → b ≤ℤ max_z a b
unfolding max_z
max_z_right a b = elim (tested (le_z a b)) [ inl e ↦ rw e (≤ℤ_refl b) | inr e ↦ rw e (let h = le_z-false a b e in omega int) ]

-- ---- the raise reaches past every coordinate that lacks

module _ (ts ls : List ℕ) (bs : List ℤ) (t : ℕ) where
  -- with one more than the lack, the coordinate is greater than at both other corners
  deficit_past : (c a b : ℕ) (m : ℤ) → deficit ts ls bs t c a b ≤ℤ m →
      (corner_coordinate ts ls bs c t a <ℤ (corner_coordinate ts ls bs c t c +ℤ (pos 1 +ℤ m)))
      × (corner_coordinate ts ls bs c t b <ℤ (corner_coordinate ts ls bs c t c +ℤ (pos 1 +ℤ m)))
  unfolding deficit
  deficit_past c a b m h =
      let v = corner_coordinate ts ls bs c t a in
      let w = corner_coordinate ts ls bs c t b in
      let g = max_z v w in
      let z = corner_coordinate ts ls bs c t c in
      let l = max_z-left v w in
      let r = max_z_right v w in
      let k : (g -ℤ z) ≤ℤ m = h in
      (omega (int, zpos 1, z- g z, z+ (pos 1) m, z+ z (pos 1 +ℤ m)), omega (int, zpos 1, z- g z, z+ (pos 1) m, z+ z (pos 1 +ℤ m)))

  -- by its raise each coordinate at the corner with its label comes to exceed those at the two other corners
  pub raise_past : (c a : ℕ) → c < 3 → a < 3 → a ≢ c →
      corner_coordinate ts ls bs c t a <ℤ (corner_coordinate ts ls bs c t c +ℤ raise ts ls bs t)
  unfolding raise
  raise_past c a hc ha d =
      let l0 = deficit ts ls bs t 0 1 2 in
      let l1 = deficit ts ls bs t 1 0 2 in
      let l2 = deficit ts ls bs t 2 0 1 in
      let k = max_z l1 l2 in
      let m = max_z l0 k in
      let h0 : l0 ≤ℤ m = max_z-left l0 k in
      let hk : k ≤ℤ m = max_z_right l0 k in
      let h1 : l1 ≤ℤ m = let r = max_z-left l1 l2 in omega int in
      let h2 : l2 ≤ℤ m = let r = max_z_right l1 l2 in omega int in
      go (pos 1 +ℤ m) c a hc ha d (deficit_past 0 1 2 m h0) (deficit_past 1 0 2 m h1) (deficit_past 2 0 1 m h2)
    where
      go : (m : ℤ) (c a : ℕ) → c < 3 → a < 3 → a ≢ c →
          (corner_coordinate ts ls bs 0 t 1 <ℤ (corner_coordinate ts ls bs 0 t 0 +ℤ m))
          × (corner_coordinate ts ls bs 0 t 2 <ℤ (corner_coordinate ts ls bs 0 t 0 +ℤ m)) →
          (corner_coordinate ts ls bs 1 t 0 <ℤ (corner_coordinate ts ls bs 1 t 1 +ℤ m))
          × (corner_coordinate ts ls bs 1 t 2 <ℤ (corner_coordinate ts ls bs 1 t 1 +ℤ m)) →
          (corner_coordinate ts ls bs 2 t 0 <ℤ (corner_coordinate ts ls bs 2 t 2 +ℤ m))
          × (corner_coordinate ts ls bs 2 t 1 <ℤ (corner_coordinate ts ls bs 2 t 2 +ℤ m)) →
          corner_coordinate ts ls bs c t a <ℤ (corner_coordinate ts ls bs c t c +ℤ m)
      go m zero zero hc ha d p0 p1 p2 = absurd (d refl)
      go m zero (suc zero) hc ha d p0 p1 p2 = p0.0
      go m zero (suc (suc zero)) hc ha d p0 p1 p2 = p0.1
      go m zero (suc (suc (suc a))) hc ha d p0 p1 p2 = absurd (omega arith)
      go m (suc zero) zero hc ha d p0 p1 p2 = p1.0
      go m (suc zero) (suc zero) hc ha d p0 p1 p2 = absurd (d refl)
      go m (suc zero) (suc (suc zero)) hc ha d p0 p1 p2 = p1.1
      go m (suc zero) (suc (suc (suc a))) hc ha d p0 p1 p2 = absurd (omega arith)
      go m (suc (suc zero)) zero hc ha d p0 p1 p2 = p2.0
      go m (suc (suc zero)) (suc zero) hc ha d p0 p1 p2 = p2.1
      go m (suc (suc zero)) (suc (suc zero)) hc ha d p0 p1 p2 = absurd (d refl)
      go m (suc (suc zero)) (suc (suc (suc a))) hc ha d p0 p1 p2 = absurd (omega arith)
      go m (suc (suc (suc c))) a hc ha d p0 p1 p2 = absurd (omega arith)

-- ---- weights after one raise

-- as many as before
pub length-add_to : (ws : List ℤ) (t : ℕ) (x : ℤ) → length (add_to ws t x) ≡ length ws
unfolding add_to
length-add_to ws t x = length-set ws (t - 1) (weight ws t +ℤ x)

-- the raised triangle's weight, and the others'
pub weight_raised : (ws : List ℤ) (t : ℕ) (x : ℤ) → 0 < t → t ≤ length ws → weight (add_to ws t x) t ≡ weight ws t +ℤ x
unfolding add_to weight
weight_raised ws zero x h k = absurd (omega arith)
weight_raised ws (suc s) x h k =
    let e : suc s - 1 ≡ s = omega arith in
    rw e (get_or-set_same ws s (get_or ws s (pos 0) +ℤ x) (pos 0) (omega arith))

pub weight-other : (ws : List ℤ) (t : ℕ) (x : ℤ) (u : ℕ) → u ≢ t → 0 < t → weight (add_to ws t x) u ≡ weight ws u
unfolding add_to weight
weight-other ws t x zero d h = refl
weight-other ws t x (suc v) d h = get_or-set_other ws (t - 1) v (get_or (pos 0 ∷ ws) t (pos 0) +ℤ x) (pos 0) (omega arith)

-- the total is greater by the raise
pub total_raised : (ws : List ℤ) (t : ℕ) (x : ℤ) → 0 < t → t ≤ length ws → total (add_to ws t x) ≡ total ws +ℤ x
unfolding add_to weight
total_raised ws zero x h k = absurd (omega arith)
total_raised ws (suc s) x h k =
    let e : suc s - 1 ≡ s = omega arith in
    let w = get_or ws s (pos 0) in
    let q = total-set ws s (w +ℤ x) (pos 0) (omega arith) in
    rw e (omega (int, z+ w x, z+ (total (set ws s (w +ℤ x))) w, z+ (total ws) (w +ℤ x), z+ (total ws) x))

-- ---- coordinates after one raise

-- the share of a sum
pub share-sum : (b : Bool) (w x : ℤ) → cond b (w +ℤ x) (pos 0) ≡ cond b w (pos 0) +ℤ cond b x (pos 0)
share-sum true w x = refl
share-sum false w x = refl

-- what was greater by more than the raise did to it stays greater; what gets the raise alone is greater afterwards
stays : (v w x v' w' : ℤ) (p q : Bool) (s : ℕ) → v' ≡ v +ℤ cond p x (pos 0) → w' ≡ w +ℤ cond q x (pos 0) → pos 0 ≤ℤ x →
    bit p + s ≤ bit q → v <ℤ w → v' <ℤ w'
stays v w x v' w' p q s e e' h k l =
    let m = share-le p q s x h k in
    omega (int, z+ v (cond p x (pos 0)), z+ w (cond q x (pos 0)))

comes : (v w x v' w' : ℤ) (p q : Bool) → v' ≡ v +ℤ cond p x (pos 0) → w' ≡ w +ℤ cond q x (pos 0) → bit p + 1 ≤ bit q →
    v <ℤ (w +ℤ x) → v' <ℤ w'
comes v w x v' w' true true e e' k l = absurd (omega arith)
comes v w x v' w' true false e e' k l = absurd (omega arith)
comes v w x v' w' false false e e' k l = absurd (omega arith)
comes v w x v' w' false true e e' k l = omega (int, zpos 0, z+ v (pos 0), z+ w x)

module _ (n : ℕ) (ts ls : List ℕ) (size : length ts ≡ triangles_length n) (U : Units n ts ls) (ws : List ℤ) (len : length ws ≡ weights_length n)
    (t : ℕ) (ht : 0 < t) (kt : t < length ts / 3) where
  module _ (x : ℤ) where
    -- each coordinate that the triangle's weight is part of is greater by x
    pub raised_value : (c s a : ℕ) → 0 < s → s < length ts / 3 → c < 3 → a < 3 →
        corner_coordinate ts ls (forward n ts ls (add_to ws t x)) c s a
        ≡ corner_coordinate ts ls (forward n ts ls ws) c s a +ℤ cond (is_part n ts ls c (vertex_at ts ls s a) t) x (pos 0)
    raised_value c s a h k hc ha =
        let ws' = add_to ws t x in
        let i = vertex_at ts ls s a in
        let y = cond (is_part n ts ls c i t) x (pos 0) in
        value-sum n ts ls size U ws' (length-add_to ws t x ∙ len) c s a h k hc ha
        ∙ sum_change (term n ts ls ws c i) (term n ts ls ws' c i) t y 1 (weights_length n)
        (λ u d. ap (λ (w : ℤ). cond (is_part n ts ls c i u) w (pos 0)) (weight-other ws t x u d ht))
        (ap (λ (w : ℤ). cond (is_part n ts ls c i t) w (pos 0)) (weight_raised ws t x ht (omega arith))
        ∙ share-sum (is_part n ts ls c i t) (weight ws t) x)
        ht (omega arith)
        ∙ ap (λ (w : ℤ). w +ℤ y) (sym (value-sum n ts ls size U ws len c s a h k hc ha))

    -- an extended triangle stays extended
    pub raise_keeps : pos 0 ≤ℤ x → (s : ℕ) → 0 < s → s < length ts / 3 → Extended ts ls (forward n ts ls ws) s →
        Extended ts ls (forward n ts ls (add_to ws t x)) s
    raise_keeps hx s h k ext c a hc ha d =
        let bs = forward n ts ls ws in
        let bs' = forward n ts ls (add_to ws t x) in
        stays (corner_coordinate ts ls bs c s a) (corner_coordinate ts ls bs c s c) x (corner_coordinate ts ls bs' c s a) (corner_coordinate ts ls bs' c s c)
        (is_part n ts ls c (vertex_at ts ls s a) t) (is_part n ts ls c (vertex_at ts ls s c) t) (same? s t)
        (raised_value c s a h k hc ha) (raised_value c s c h k hc hc) hx (is_part_most n ts ls U t s ht kt h k c a hc ha d) (ext c a hc ha d)

  -- a triangle raised by its own raise or more is extended afterwards
  pub raise_extends : (x : ℤ) → raise ts ls (forward n ts ls ws) t ≤ℤ x → Extended ts ls (forward n ts ls (add_to ws t x)) t
  raise_extends x l c a hc ha d =
      let bs = forward n ts ls ws in
      let y = raise ts ls bs t in
      let v = corner_coordinate ts ls bs c t a in
      let w = corner_coordinate ts ls bs c t c in
      let past : v <ℤ (w +ℤ x) = let r = raise_past ts ls bs t c a hc ha d in omega (int, z+ w y, z+ w x) in
      let bs' = forward n ts ls (add_to ws t x) in
      let p = is_part n ts ls c (vertex_at ts ls t a) t in
      let q = is_part n ts ls c (vertex_at ts ls t c) t in
      comes v w x (corner_coordinate ts ls bs' c t a) (corner_coordinate ts ls bs' c t c) p q (raised_value x c t a ht kt hc ha)
      (raised_value x c t c ht kt hc hc) (omega (arith, is_part_most n ts ls U t t ht kt ht kt c a hc ha d, same-one t)) past

  -- A bad triangle's raise is at least 1: with a raise of 0 or less it would be extended already.
  pub bad-raise : bad ts ls (forward n ts ls ws) t ≡ true → pos 1 ≤ℤ raise ts ls (forward n ts ls ws) t
  bad-raise b =
      let bs = forward n ts ls ws in
      let x = raise ts ls bs t in
      elim (tested (le_z (pos 1) x)) [
        | inl e ↦ le_z-true (pos 1) x e
        | inr e ↦
            let h = le_z-false (pos 1) x e in
            clash b
            (good n ts ls size U ws t ht kt
            (λ c a hc ha d.
            let r = raise_past ts ls bs t c a hc ha d in
            omega (int, zpos 1, z+ (corner_coordinate ts ls bs c t c) x)))
      ]
