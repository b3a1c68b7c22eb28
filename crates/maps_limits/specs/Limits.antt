-- Rows 9 to 12 and 29 as the code meets them: entry by entry, vertex by vertex. Assumes nothing.
use Rattle.std.specs.Prelude.{ℕ, ◌+◌, ◌*◌, ◌≤◌, ◌<◌, ◌≡◌, refl, Bool, true, false, ◌&&◌, List, ltb, length, get_or, drop, ℤ, pos, negsuc, nat_abs, eqb, ◌+ℤ◌}
use Rattle.std.proofs.Math.Path.{sym}
use Rattle.std.proofs.Common.{SFits, arith, add-one, drop_of_length-le, drop-cons, to_z, of_z, lt-ltb, le-ltb, ltb-false}
use Rattle.std.proofs.Math.Bool.{not}
use Rattle.std.proofs.Math.Decide.{dec_lt}
use Rattle.std.proofs.Math.ListN.{get_or-eq_default}
use Rattle.std.specs.List.{list_any, zip}
use Rattle.std.specs.Int.Signed.{le_z, lt_z}
use Rattle.std.proofs.lemmas.Slice.Zip.{length-zip, get_or-zip}
use Rattle.std.specs.Int.{w64}
use Rattle.std.proofs.lemmas.Bool.Decides.{nat_tests}
use Rattle.std.proofs.lemmas.Int.{ints}
use borrow.Author.Differences.{up, down}
use Rattle.definitions.specs.Lists.{any, upto, total_abs}
use Rattle.definitions.specs.Mesh.{coordinates_length, org}
use Rattle.definitions.specs.Labels.{outer}
use Rattle.definitions.specs.Backward.{coordinate}
use Rattle.definitions.specs.Repair.{limit}
use Rattle.definitions.specs.Refusals.{eq_z, has_coordinates, row9, row10, row11, row12, row29}
use Rattle.maps_limits.specs.Any.{any-at}
use Rattle.laws.specs.Lists.{in_get_or, get_or_in, any_false, false-any}
use Rattle.labels_tables.specs.Peeling.{peeling}
use Rattle.labels_tables.specs.LabelledTables.{Labelled, whole}

-- ---- row 9: the absolute values of the first i weights have been summed

pub record Summed (ws : List ℤ) (i sum : ℕ) : Type 0 where
  pub rest : sum + total_abs (drop i ws) ≡ total_abs ws
  pub low : sum ≤ limit

pub summed_none : (ws : List ℤ) → Summed ws 0 0
summed_none ws = record { rest = omega arith; low = omega arith }

-- one more
summed_rest : (ws : List ℤ) (i : ℕ) → i < length ws → total_abs (drop i ws) ≡ nat_abs (get_or ws i (pos 0)) + total_abs (drop (i + 1) ws)
unfolding total_abs
summed_rest ws i h = rw (add-one i, drop-cons ws i (pos 0) h)

pub summed_more : (ws : List ℤ) (i sum m : ℕ) → i < length ws → m ≡ nat_abs (get_or ws i (pos 0)) → sum + m ≤ limit → Summed ws i sum →
    Summed ws (i + 1) (sum + m)
summed_more ws i sum m h e q s = record { rest = omega (arith, summed_rest ws i h, s.rest); low = q }

pub summed_past : (ws : List ℤ) (i sum m : ℕ) → i < length ws → m ≡ nat_abs (get_or ws i (pos 0)) → limit < sum + m → Summed ws i sum →
    true ≡ row9 ws
unfolding row9
summed_past ws i sum m h e q s = sym (lt-ltb limit (total_abs ws) (omega (arith, summed_rest ws i h, s.rest)))

pub summed_all : (ws : List ℤ) (i sum : ℕ) → length ws ≤ i → Summed ws i sum → false ≡ row9 ws
unfolding row9 total_abs
summed_all ws i sum h s = let r = rw (drop_of_length-le ws h) at s.rest in sym (le-ltb limit (total_abs ws) (omega (arith, s.low)))

-- ---- row 29, by the pairs of a low and its high

above_is : (a b : ℤ) → lt_z b a ≡ not (le_z a b)
above_is a b = grind (arith, ints)

pub pairs_are : (lows highs : List ℤ) → length lows ≡ length highs → list_any (λ (p : ℤ × ℤ). lt_z p.1 p.0) (zip lows highs) ≡ row29 lows highs
unfolding row29
pairs_are lows highs e =
    any-at (λ (p : ℤ × ℤ). lt_z p.1 p.0) (λ k. not (le_z (get_or lows k (pos 0)) (get_or highs k (pos 0)))) (pos 0, pos 0) (zip lows highs) (length lows)
    (omega (arith, length-zip lows highs))
    (λ k l. let h : k < length highs = omega (arith, l) in rw get_or-zip (above_is (get_or lows k (pos 0)) (get_or highs k (pos 0))))

-- ---- row 10

-- the first i coordinates are within the limit
abbrev pub Within : List ℤ → ℕ → Type 0
Within bs i = (k : ℕ) → k < i → nat_abs (get_or bs k (pos 0)) ≤ limit

pub within_all : (bs : List ℤ) (i : ℕ) → length bs ≤ i → Within bs i → false ≡ row10 bs
unfolding row10
within_all bs i h f =
    sym (false-any (λ b. ltb limit (nat_abs b)) bs (λ b m.
    let q = in_get_or (pos 0) m in
    rw (sym q.2) (le-ltb limit (nat_abs (get_or bs q.0 (pos 0))) (f q.0 (omega (arith, q.1))))))

-- where row 10 finds nothing every coordinate is within the limit
pub range : (bs : List ℤ) → row10 bs ≡ false → (k : ℕ) → nat_abs (get_or bs k (pos 0)) ≤ limit
unfolding row10
range bs e k = elim (dec_lt k (length bs)) [
  | yes h ↦ ltb-false limit (nat_abs (get_or bs k (pos 0))) (any_false (λ b. ltb limit (nat_abs b)) bs e (get_or_in bs k (pos 0) h))
  | no h ↦ rw (get_or-eq_default bs (pos 0) {n = k} (omega (arith, h))) (omega arith)
]

pub coordinate-range : (bs : List ℤ) → row10 bs ≡ false → (c i : ℕ) → nat_abs (coordinate bs c i) ≤ limit
unfolding coordinate
coordinate-range bs e c i = range bs e (3 * i + c)

-- the same of a coordinate's positive and negative parts, which `omega (arith, ints)` reads
pub coordinate_parts : (bs : List ℤ) → row10 bs ≡ false → (c i : ℕ) → let b = coordinate bs c i in (up b ≤ down b + limit) × (down b ≤ up b + limit)
coordinate_parts bs e c i = let h = coordinate-range bs e c i in omega (arith, ints)

-- of a call's result that is a coordinate, read back from its bits, `omega` reads this
pub coordinate-size : (bs : List ℤ) → row10 bs ≡ false → (x : ℤ) (c i : ℕ) → x ≡ coordinate bs c i → nat_abs (to_z w64 (of_z w64 x)) ≤ limit
coordinate-size bs e x c i h = let b = coordinate_parts bs e c i in omega (arith, ints)

-- ---- row 11: the tests in the code's order

-- two numbers with the same bits are equal
pub same_bits : (a b : ℤ) → SFits w64 a → SFits w64 b → eqb (of_z w64 a) (of_z w64 b) ≡ eq_z a b
unfolding eq_z
same_bits (pos m) (pos n) f g = grind (arith, nat_tests)
same_bits (pos m) (negsuc n) f g = grind (arith, nat_tests, f.sfits, g.sfits)
same_bits (negsuc m) (pos n) f g = grind (arith, nat_tests, f.sfits, g.sfits)
same_bits (negsuc m) (negsuc n) f g = grind (arith, nat_tests, f.sfits, g.sfits)

row11_is : (ts : List ℕ) (bs : List ℤ) → let N = coordinate bs 0 (org ts 0) in row11 ts bs
    ≡ not (has_coordinates bs (org ts 0) N (pos 0) (pos 0) && has_coordinates bs (org ts 2) (pos 0) N (pos 0)
    && has_coordinates bs (org ts 1) (pos 0) (pos 0) N)
unfolding row11 outer
row11_is ts bs = refl

-- ---- the outer vertices as scratch has them

module _ {n : ℕ} {ts ls : List ℕ} {s : List ℤ} (l : Labelled n ts ls s) where
  corner-below : (d : ℕ) → d < 3 → d < length ts
  corner-below d h = omega (arith, l.size, l.sphere.least)

  pub corner_is : (d : ℕ) → d < 3 → (peeling s).origin d ≡ org ts d
  corner_is d h = l.origins d (corner-below d h)

  -- their coordinates are there
  pub corner_in : (d v c : ℕ) (bs : List ℤ) → d < 3 → v ≡ (peeling s).origin d → length bs ≡ coordinates_length n → c < 3 → 3 * v + c < length bs
  corner_in d v c bs h e long q =
      let i : org ts d < n = l.sphere.vertex d (omega (arith, corner-below d h, whole l)) in
      omega (arith, e, corner_is d h, i, long)

-- row 11 by the vertices that scratch has
pub corners_are : (bs s : List ℤ) (v0 v1 v2 : ℕ) (N : ℤ) (n : ℕ) (ts ls : List ℕ) → Labelled n ts ls s →
    v0 ≡ (peeling s).origin 0 → v1 ≡ (peeling s).origin 2 → v2 ≡ (peeling s).origin 1 → N ≡ coordinate bs 0 v0 →
    not (has_coordinates bs v0 N (pos 0) (pos 0) && has_coordinates bs v1 (pos 0) N (pos 0) && has_coordinates bs v2 (pos 0) (pos 0) N) ≡ row11 ts bs
corners_are bs s v0 v1 v2 N n ts ls l e f g h =
    rw (h, e, f, g, corner_is l 0 (omega arith), corner_is l 1 (omega arith), corner_is l 2 (omega arith)) (sym (row11_is ts bs))

-- ---- row 12

-- the coordinates of vertex i sum to N
unfoldable pub balanced : List ℤ → ℤ → ℕ → Bool
unfolding eq_z coordinate
balanced bs N i = eq_z (coordinate bs 0 i +ℤ coordinate bs 1 i +ℤ coordinate bs 2 i) N

-- row 12 by b0 of v0, as scratch has it
pub sums_are : (n : ℕ) (bs s : List ℤ) (N : ℤ) (ts ls : List ℕ) → Labelled n ts ls s → N ≡ coordinate bs 0 ((peeling s).origin 0) →
    any (λ i. not (balanced bs N i)) (upto n) ≡ row12 n ts bs
unfolding row12 balanced outer
sums_are n bs s N ts ls l e = rw (e, corner_is l 0 (omega arith))
