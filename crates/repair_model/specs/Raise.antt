-- What a raise does to coordinates 0 and 1, which are all that repair's loop keeps up to date, and to the areas of triangles. Assumes nothing.
use Rattle.std.specs.Prelude.{ℕ, zero, suc, ◌+◌, ◌*◌, ◌/◌, ◌%◌, ◌≤◌, ◌<◌, ◌≡◌, refl, Bool, true, false, cond, List, length, ℤ, pos, negsuc, neg_ℤ, nat_abs, ◌+ℤ◌}
use Rattle.std.proofs.Math.Path.{ap, sym}
use Rattle.std.proofs.Common.{ap₂, ◌∙◌}
use native.Mathlib.Omega.{arith}
use Rattle.std.proofs.Math.Seq.{ext_get_or}
use Rattle.std.proofs.Math.IntN.{◌-ℤ◌, ◌*ℤ◌}
use Rattle.std.specs.Int.Signed.{le_z}
use Rattle.definitions.specs.Lists.{total}
use Rattle.definitions.specs.Mesh.{triangles_length, weights_length, coordinates_length}
use Rattle.definitions.specs.Forward.{weight, crosses, forward}
use Rattle.definitions.specs.Backward.{coordinate}
use Rattle.definitions.specs.Repair.{limit, corner_coordinate, area, bad, add_to}
use Rattle.definitions.specs.Refusals.{row9, row10}
use Rattle.laws.specs.Integers.{int, z+, z-}
use Rattle.laws.specs.Sums.{sum_change}
use Rattle.theory_realizer.specs.Units.{Units, bit, unit0, unit1, vertex_at}
use Rattle.theory_repair.specs.Parts.{is_part}
use Rattle.theory_repair.specs.Coordinates.{term, coordinate-sum, coordinates_total, length-forward}
use Rattle.theory_repair.specs.Bounds.{row10-forward}
use Rattle.theory_repair.specs.Raises.{length-add_to, weight_raised, weight-other, share-sum, raised_value}
use Rattle.maps_limits.specs.Limits.{within_all, coordinate-range}

-- Coordinates 0 and 1 of a list are those of the weights. The third is written when the loop has ended; until then it is only not past the limit.
pub record Drawn (n : ℕ) (ts ls : List ℕ) (ws bs : List ℤ) : Type 0 where
  pub long : length bs ≡ coordinates_length n
  pub same : (c i : ℕ) → c < 2 → i < n → coordinate bs c i ≡ coordinate (forward n ts ls ws) c i
  pub third : (i : ℕ) → i < n → nat_abs (coordinate bs 2 i) ≤ limit

-- x at i more, as many times as the unit map says
pub record Moved (n : ℕ) (m0 m1 : ℕ → ℕ) (x : ℤ) (bs bs' : List ℤ) : Type 0 where
  pub long : length bs' ≡ length bs
  pub more0 : (i : ℕ) → i < n → coordinate bs' 0 i ≡ coordinate bs 0 i +ℤ pos (m0 i) *ℤ x
  pub more1 : (i : ℕ) → i < n → coordinate bs' 1 i ≡ coordinate bs 1 i +ℤ pos (m1 i) *ℤ x
  pub same2 : (i : ℕ) → i < n → coordinate bs' 2 i ≡ coordinate bs 2 i

-- ---- lists of three coordinates to a vertex

module _ (n : ℕ) (bs : List ℤ) (long : length bs ≡ coordinates_length n) where
  -- known by their coordinates
  pub by_coordinates : (bs' : List ℤ) → length bs' ≡ coordinates_length n →
      ((c i : ℕ) → c < 3 → i < n → coordinate bs c i ≡ coordinate bs' c i) → bs ≡ bs'
  unfolding coordinate
  by_coordinates bs' long' same =
      ext_get_or (pos 0) bs bs' (long ∙ sym long')
      (λ k h. let e : 3 * (k / 3) + k % 3 ≡ k = omega arith in rw e at (same (k % 3) (k / 3) (omega arith) (omega (arith, long))))

  -- none past the limit
  pub all_within : ((c i : ℕ) → c < 3 → i < n → nat_abs (coordinate bs c i) ≤ limit) → row10 bs ≡ false
  unfolding coordinate
  all_within each =
      sym (within_all bs (length bs) (omega arith)
      (λ k h. let e : 3 * (k / 3) + k % 3 ≡ k = omega arith in rw e at (each (k % 3) (k / 3) (omega arith) (omega (arith, long)))))

-- ---- shares of a raise

share-times : (b : Bool) (x : ℤ) → cond b x (pos 0) ≡ pos (bit b) *ℤ x
share-times true (pos k) = let e : k ≡ 1 * k = omega arith in ap pos e
share-times true (negsuc k) = let e : suc k ≡ 1 * suc k = omega arith in ap (λ (m : ℕ). neg_ℤ (pos m)) e
share-times false (pos k) = let e : 0 ≡ 0 * k = omega arith in ap pos e
share-times false (negsuc k) = let e : 0 ≡ 0 * suc k = omega arith in ap (λ (m : ℕ). neg_ℤ (pos m)) e

same_bit : (a b : Bool) → bit a ≡ bit b → a ≡ b
same_bit true true e = refl
same_bit true false e = absurd (omega arith)
same_bit false true e = absurd (omega arith)
same_bit false false e = refl

module _ (n : ℕ) (ts ls : List ℕ) (U : Units n ts ls) (size : length ts ≡ triangles_length n) where
  -- what is drawn is within the limit where the weights are
  pub drawn_within : (ws bs : List ℤ) → length ws ≡ weights_length n → row9 ws ≡ false → Drawn n ts ls ws bs → row10 bs ≡ false
  drawn_within ws bs len light D = all_within n bs D.long each
    where
      known : (c i : ℕ) → c < 2 → i < n → nat_abs (coordinate bs c i) ≤ limit
      known c i h k = rw (D.same c i h k) (coordinate-range (forward n ts ls ws) (row10-forward n ts ls size U ws len light) c i)

      each : (c i : ℕ) → c < 3 → i < n → nat_abs (coordinate bs c i) ≤ limit
      each zero i h k = known 0 i (omega arith) k
      each (suc zero) i h k = known 1 i (omega arith) k
      each (suc (suc zero)) i h k = D.third i k
      each (suc (suc (suc c))) i h k = absurd (omega arith)

  -- the coordinates of the weights are drawn
  pub drawn_first : (ws : List ℤ) → length ws ≡ weights_length n → row9 ws ≡ false → Drawn n ts ls ws (forward n ts ls ws)
  drawn_first ws len light =
      record {
        long = length-forward n ts ls ws;
        same = λ c i h k. refl;
        third = λ i k. coordinate-range (forward n ts ls ws) (row10-forward n ts ls size U ws len light) 2 i;
      }

  module _ (ws : List ℤ) (len : length ws ≡ weights_length n) (t : ℕ) (ht : 0 < t) (kt : t < length ts / 3) (x : ℤ) where
    -- the coordinates after a raise of t by x
    raised_coordinate : (c i : ℕ) → c < 3 → i < n →
        coordinate (forward n ts ls (add_to ws t x)) c i ≡ coordinate (forward n ts ls ws) c i +ℤ cond (is_part n ts ls c i t) x (pos 0)
    raised_coordinate c i hc hi =
        let ws' = add_to ws t x in
        let y = cond (is_part n ts ls c i t) x (pos 0) in
        coordinate-sum n ts ls size U ws' (length-add_to ws t x ∙ len) c i hc hi
        ∙ sum_change (term n ts ls ws c i) (term n ts ls ws' c i) t y 1 (weights_length n)
        (λ u d. ap (λ (w : ℤ). cond (is_part n ts ls c i u) w (pos 0)) (weight-other ws t x u d ht))
        (ap (λ (w : ℤ). cond (is_part n ts ls c i t) w (pos 0)) (weight_raised ws t x ht (omega arith))
        ∙ share-sum (is_part n ts ls c i t) (weight ws t) x)
        ht (omega arith)
        ∙ ap (λ (w : ℤ). w +ℤ y) (sym (coordinate-sum n ts ls size U ws len c i hc hi))

    -- moved by the unit map of t, what was drawn of the weights is drawn of the raised ones
    pub moved_drawn : (bs bs' : List ℤ) → Drawn n ts ls ws bs → Moved n (unit0 n ts ls t) (unit1 n ts ls t) x bs bs' →
        Drawn n ts ls (add_to ws t x) bs'
    moved_drawn bs bs' D M = record { long = M.long ∙ D.long; same = each; third = λ i k. rw (M.same2 i k) (D.third i k) }
      where
        each : (c i : ℕ) → c < 2 → i < n → coordinate bs' c i ≡ coordinate (forward n ts ls (add_to ws t x)) c i
        each zero i h k =
            M.more0 i k ∙ ap₂ ◌+ℤ◌ (D.same 0 i h k) (sym (share-times (crosses n ts ls 1 i t) x)) ∙ sym (raised_coordinate 0 i (omega arith) k)
        each (suc zero) i h k =
            M.more1 i k ∙ ap₂ ◌+ℤ◌ (D.same 1 i h k) (sym (share-times (crosses n ts ls 0 i t) x)) ∙ sym (raised_coordinate 1 i (omega arith) k)
        each (suc (suc c)) i h k = absurd (omega arith)

    -- ---- a triangle with all corners in one region of t

    module _ (g : ℕ) (hg : 0 < g) (kg : g < length ts / 3)
        (one : (c : ℕ) → c < 3 →
        (unit0 n ts ls t (vertex_at ts ls g c) ≡ unit0 n ts ls t (vertex_at ts ls g 0))
        × (unit1 n ts ls t (vertex_at ts ls g c) ≡ unit1 n ts ls t (vertex_at ts ls g 0))) where
      -- moves as a whole
      abbrev before : List ℤ
      before = forward n ts ls ws

      abbrev after : List ℤ
      after = forward n ts ls (add_to ws t x)

      same-mark : (c a : ℕ) → c < 2 → a < 3 → is_part n ts ls c (vertex_at ts ls g a) t ≡ is_part n ts ls c (vertex_at ts ls g 0) t
      same-mark zero a h k = same_bit (crosses n ts ls 1 (vertex_at ts ls g a) t) (crosses n ts ls 1 (vertex_at ts ls g 0) t) (one a k).0
      same-mark (suc zero) a h k = same_bit (crosses n ts ls 0 (vertex_at ts ls g a) t) (crosses n ts ls 0 (vertex_at ts ls g 0) t) (one a k).1
      same-mark (suc (suc c)) a h k = absurd (omega arith)

      difference : (c a : ℕ) → c < 2 → a < 3 → corner_coordinate ts ls after c g a -ℤ corner_coordinate ts ls after c g 0
          ≡ corner_coordinate ts ls before c g a -ℤ corner_coordinate ts ls before c g 0
      difference c a h k =
          let y = cond (is_part n ts ls c (vertex_at ts ls g 0) t) x (pos 0) in
          let p : corner_coordinate ts ls after c g a ≡ corner_coordinate ts ls before c g a +ℤ y =
          raised_value n ts ls size U ws len t ht kt x c g a hg kg (omega arith) k
          ∙ ap (λ (b : Bool). corner_coordinate ts ls before c g a +ℤ cond b x (pos 0)) (same-mark c a h k) in
          let q = raised_value n ts ls size U ws len t ht kt x c g 0 hg kg (omega arith) (omega arith) in
          omega (
            int,
            z+ (corner_coordinate ts ls before c g a) y,
            z+ (corner_coordinate ts ls before c g 0) y,
            z- (corner_coordinate ts ls after c g a) (corner_coordinate ts ls after c g 0),
            z- (corner_coordinate ts ls before c g a) (corner_coordinate ts ls before c g 0),
          )

      pub bad-kept : bad ts ls after g ≡ bad ts ls before g
      unfolding bad area
      bad-kept =
          ap (λ (d : ℤ). le_z d (pos 0))
          (ap₂ ◌-ℤ◌ (ap₂ ◌*ℤ◌ (difference 0 1 (omega arith) (omega arith)) (difference 1 2 (omega arith) (omega arith)))
          (ap₂ ◌*ℤ◌ (difference 1 1 (omega arith) (omega arith)) (difference 0 2 (omega arith) (omega arith))))

  -- ---- the end of the loop

  -- the third coordinate written, they are the coordinates of the weights
  pub drawn_all : (ws bs : List ℤ) → Drawn n ts ls ws bs → (bs' : List ℤ) → length bs' ≡ length bs →
      ((c i : ℕ) → c < 2 → i < n → coordinate bs' c i ≡ coordinate bs c i) →
      ((i : ℕ) → i < n → coordinate bs' 2 i ≡ total ws -ℤ coordinate bs 0 i -ℤ coordinate bs 1 i) → bs' ≡ forward n ts ls ws
  drawn_all ws bs D bs' long two third = by_coordinates n bs' (long ∙ D.long) (forward n ts ls ws) (length-forward n ts ls ws) each
    where
      each : (c i : ℕ) → c < 3 → i < n → coordinate bs' c i ≡ coordinate (forward n ts ls ws) c i
      each zero i h k = two 0 i (omega arith) k ∙ D.same 0 i (omega arith) k
      each (suc zero) i h k = two 1 i (omega arith) k ∙ D.same 1 i (omega arith) k
      each (suc (suc zero)) i h k =
          let b0 = coordinate (forward n ts ls ws) 0 i in
          let b1 = coordinate (forward n ts ls ws) 1 i in
          let b2 = coordinate (forward n ts ls ws) 2 i in
          let N = total ws in
          let e : N -ℤ b0 -ℤ b1 ≡ b2 = let s = coordinates_total n ts ls ws i k in
          omega (int, z+ b0 b1, z+ (b0 +ℤ b1) b2, z- N b0, z- (N -ℤ b0) b1) in
          third i k ∙ ap₂ (λ (a b : ℤ). N -ℤ a -ℤ b) (D.same 0 i (omega arith) k) (D.same 1 i (omega arith) k) ∙ e
      each (suc (suc (suc c))) i h k = absurd (omega arith)
