-- The backward map from the tables of the labels stage, in the order of the code: the definition's eight cases, and, where rows 11 and 12 find nothing,
-- document 01's weights. Assumes nothing.
-- The direction of a side shows in one label: that of the triangle across, at the tip of the side's dart. The outer triangle's corners have label 3.
use Rattle.std.specs.Prelude.{ℕ, ◌+◌, ◌-◌, ◌*◌, ◌/◌, ◌≤◌, ◌<◌, ◌≡◌, refl, Bool, false, List, map, eqb, get_or, ℤ, pos}
use Rattle.std.proofs.Common.{sym, ◌∙◌, eq-eqb, ne_eqb}
use Rattle.std.proofs.Math.Path.{ap}
use Rattle.std.proofs.Math.Logic.{inl, inr}
use native.Mathlib.Omega.{arith}
use Rattle.std.proofs.Math.ListN.{length}
use Rattle.definitions.specs.Lists.{any, upto, range}
use Rattle.definitions.specs.Mesh.{coordinates_length, tri, next, prev, org, opp, inner}
use Rattle.definitions.specs.Labels.{outer, label, rim, points}
use Rattle.definitions.specs.Backward.{coordinate, weight_at, backward}
use Rattle.definitions.specs.Directions.{eight_cases, runs}
use Rattle.definitions.specs.Refusals.{row11, row12}
use Rattle.laws.specs.Lists.{tested, clash, upto-none}
use Rattle.laws.specs.Tabulated.{length-table}
use Rattle.laws.specs.Multiples.{map-range-same, get_or-map-range}
use Rattle.theory_sphere.specs.Darts.{tri-next, tri-prev, next-prev, prev-next, prev-prev, next-below, prev-below, outer-tri}
use Rattle.theory_realizer.specs.Realizer.{Inner, inside}
use Rattle.theory_crossings.specs.Colours.{Apex, apex, apex-labels, outer_below}
use Rattle.theory_crossings.specs.Tests.{named, rim-true, rim-false, true-points}
use Rattle.theory_inverse.specs.Rows.{cornered}
use Rattle.theory_inverse.specs.Directions.{runs_is, tip-labels, inner_way, case_at}
use Rattle.scratch_tables.specs.Tables.{dart_in}
use Rattle.labels_tables.specs.Peeling.{Peeling, peeling}
use Rattle.labels_tables.specs.LabelledTables.{Labelled, Peeled, label_in, apex_dart, apex_dart_is, whole, few, opp_in, dart_room, label_in_is, outer-label}

-- the side before dart d runs to the origin of d, where its triangle has label c
unfoldable pub runs_to : Peeling → ℕ → ℕ → Bool
runs_to p d c = eqb (label_in p (p.turn d)) c

module _ (bs : List ℤ) (p : Peeling) where
  -- the weight of the triangle whose corner with label 2 is that of dart g
  unfoldable pub weight_from : ℤ → ℕ → ℤ
  weight_from N g =
      eight_cases (coordinate bs) N (p.origin (next g)) (p.origin (prev g)) (p.origin g) (runs_to p (prev g) 1) (runs_to p g 2) (runs_to p (next g) 0)

  unfoldable pub weight_of : ℤ → ℕ → ℤ
  weight_of N t = weight_from N (apex_dart p t)

  -- from its parts: the darts, their vertices, and the directions of their sides
  pub weight_of-made : (N : ℤ) (t g d e u v r : ℕ) (x y z : Bool) (N' w : ℤ) → g ≡ apex_dart p t → d ≡ next g → e ≡ prev g →
      u ≡ p.origin d → v ≡ p.origin e → r ≡ p.origin g → x ≡ runs_to p e 1 → y ≡ runs_to p g 2 → z ≡ runs_to p d 0 → N' ≡ N →
      w ≡ eight_cases (coordinate bs) N' u v r x y z → w ≡ weight_of N t
  unfolding weight_of weight_from
  weight_of-made N t g d e u v r x y z N' w eg ed ee eu ev er ex ey ez en ew = rw (ew, en, eu, ev, er, ex, ey, ez, ed, ee, eg)

  -- of all inner triangles, k of them
  unfoldable pub weights : ℕ → List ℤ
  weights k = map (weight_of (coordinate bs 0 (p.origin 0))) (range 1 k)

  -- ---- the list of weights, entry by entry

  pub length-weights : (k : ℕ) → length (weights k) ≡ k
  unfolding weights
  length-weights k = length-table (weight_of (coordinate bs 0 (p.origin 0))) 1 k

  pub weights-at : (k i : ℕ) → i < k → get_or (weights k) i (pos 0) ≡ weight_of (coordinate bs 0 (p.origin 0)) (i + 1)
  unfolding weights
  weights-at k i h = let e : 1 + i ≡ i + 1 = omega arith in
      get_or-map-range (weight_of (coordinate bs 0 (p.origin 0))) 1 k i (pos 0) (omega arith)
      ∙ ap (weight_of (coordinate bs 0 (p.origin 0))) e

-- only the darts' words count
pub same-weight : (bs : List ℤ) (p q : Peeling) (N : ℤ) (t : ℕ) → p.turn ≡ q.turn → p.origin ≡ q.origin → p.apex ≡ q.apex →
    weight_of bs p N t ≡ weight_of bs q N t
unfolding weight_of weight_from runs_to label_in apex_dart
same-weight bs p q N t e f g = rw (e, f, g)

pub length-backward : (ts ls : List ℕ) (bs : List ℤ) → length (backward ts ls bs) ≡ length ts / 3 - 1
unfolding backward inner
length-backward ts ls bs = length-table (weight_at ts ls bs) 1 (length ts / 3 - 1)

-- ---- on a labelled mesh

-- what the backward map goes on from: labels in scratch s, and coordinates that rows 11 and 12 let through
pub record LabelledDrawing (n : ℕ) (ts ls : List ℕ) (bs s : List ℤ) : Type 0 where
  pub peeled : Peeled n ts ls s
  pub corners : row11 ts bs ≡ false
  pub sums : row12 n ts bs ≡ false

-- An inner triangle t of a mesh that is labelled in scratch s, and coordinates bs of its vertices: what the code reads there is in range.
pub record InnerTriangle (bs s : List ℤ) (t : ℕ) : Type 0 where
  pub n : ℕ
  pub ts : List ℕ
  pub ls : List ℕ
  pub labelled : Labelled n ts ls s
  pub long : length bs ≡ coordinates_length n
  pub inner : 0 < t
  pub below : t < length ts / 3

-- a label across a side
pub label_in_lem : {n : ℕ} {ts ls : List ℕ} {s : List ℤ} → Labelled n ts ls s → (d e : ℕ) → d < length ts → e ≡ (peeling s).turn d →
    dart_in (length s) (3 * tri e) × (e < 65536) × (3 ≤ e → (peeling s).apex (tri e) < 3)
unfolding tri
label_in_lem {n} {ts} {ls} {s} l d e h q =
    let b : e < length ts = rw (q, l.turns d h) (opp_in l (prev d) (omega (arith, prev-below (length ts / 3) d (omega (arith, whole l)), whole l))) in
    (dart_room l (3 * (e / 3)) (omega arith), omega (arith, few l), λ k. l.apexes (e / 3) (omega arith) (omega arith))

module _ {bs s : List ℤ} {t : ℕ} (I : InnerTriangle bs s t) where
  -- the darts of the triangle
  pub apex_in : (g : ℕ) → g ≡ apex_dart (peeling s) t → g < length I.ts
  unfolding apex_dart
  apex_in g e = omega (arith, e, I.below, I.labelled.apexes t I.inner I.below)

  pub next_in : (g d : ℕ) → g ≡ apex_dart (peeling s) t → d ≡ next g → d < length I.ts
  next_in g d e q = omega (arith, q, next-below (length I.ts / 3) g (omega (arith, apex_in g e, whole I.labelled)), whole I.labelled)

  pub prev_in : (g d : ℕ) → g ≡ apex_dart (peeling s) t → d ≡ prev g → d < length I.ts
  prev_in g d e q = omega (arith, q, prev-below (length I.ts / 3) g (omega (arith, apex_in g e, whole I.labelled)), whole I.labelled)

  -- and their origins
  pub corner_room : (d v : ℕ) → d < length I.ts → v ≡ (peeling s).origin d → 3 * v + 2 < length bs
  corner_room d v h e =
      let b = I.labelled.sphere.vertex d (omega (arith, h, whole I.labelled)) in
      omega (arith, e, I.labelled.origins d h, b, I.long)

-- `search darts_in` proves that a dart of the triangle is there
pub ruleset darts_in = (apex_in, next_in, prev_in)

-- how the code counts a rim side: against the dart of its inner triangle
unfoldable against : ℕ → Bool
against d = false

module _ {n : ℕ} {ts ls : List ℕ} {s : List ℤ} (P : Peeled n ts ls s) where
  abbrev T : ℕ
  T = length ts / 3

  in_list : (d : ℕ) → d < 3 * T → d < length ts
  in_list d h = omega (arith, whole P.labelled)

  label-across : (d : ℕ) → d < 3 * T → label_in (peeling s) ((peeling s).turn d) ≡ label ls (opp ts (prev d))
  label-across d h =
      rw (P.labelled.turns d (in_list d h))
      (label_in_is P.labelled (opp ts (prev d)) (opp_in P.labelled (prev d) (in_list (prev d) (prev-below T d h))))

  inner-runs : (c d : ℕ) → c < 3 → Inner T (opp ts) d → label ls (next d) ≡ c → any (λ a. points ts ls a d) (upto 3) ≡ eqb (label ls (opp ts d)) c
  inner-runs c d h i p = elim (tested (any (λ a. points ts ls a d) (upto 3))) [
    | inl x ↦
        let t = (inner_way ts ls P.labelled.sphere P.realizer c (label ls d) d i p refl).0 x in
        x ∙ sym (eq-eqb (label ls (opp ts d)) c (tip-labels ts ls P.labelled.sphere P.realizer c d i t).1)
    | inr x ↦
        x ∙ sym (ne_eqb (label ls (opp ts d)) c (λ e. clash (true-points ts ls c d (inside i p e)) (upto-none (λ a. points ts ls a d) 3 x c h)))
  ]

  -- the label across tells how the side of dart d runs
  side-runs : (c d : ℕ) → c < 3 → d < 3 * T → 0 < tri d → label ls (next d) ≡ c → eqb (label ls (opp ts d)) c ≡ runs against ts ls d
  unfolding against
  side-runs c d h l z p = rw (runs_is against ts ls d) (elim (tested (rim ts d)) [
    | inl x ↦ elim (rim-true ts ls d l x).outer [
      | inl o ↦ absurd (omega (arith, z, o))
      | inr o ↦ rw x (ne_eqb (label ls (opp ts d)) c (λ e. omega (arith, h, e, outer-label ls (opp ts d) (outer-tri (opp ts d) o))))
    ]
    | inr x ↦ rw x (sym (inner-runs c d h (rim-false ts ls d l x) p))
  ])

  runs_to_is : (c d : ℕ) → c < 3 → d < 3 * T → 0 < tri d → label ls d ≡ c → runs_to (peeling s) d c ≡ runs against ts ls (prev d)
  unfolding runs_to
  runs_to_is c d h l z p =
      rw (label-across d l) (side-runs c (prev d) h (prev-below T d l) (omega (arith, z, tri-prev d)) (ap (label ls) (next-prev d) ∙ p))

  -- the corner with label 2 is the one that the code finds
  apex_dart-here : (t g : ℕ) → 0 < t → t < T → tri g ≡ t → Apex T (label ls) g → apex_dart (peeling s) t ≡ g
  apex_dart-here t g z h e a =
      apex_dart_is (peeling s) t g z e (P.labelled.apexes t z h) (label_in_is P.labelled g (in_list g a.below) ∙ a.two)

  origin_here : (d : ℕ) → d < 3 * T → (peeling s).origin d ≡ org ts d
  origin_here d h = P.labelled.origins d (in_list d h)

module _ {n : ℕ} {ts ls : List ℕ} {bs s : List ℤ} (D : LabelledDrawing n ts ls bs s) where
  abbrev P : Peeled n ts ls s
  P = D.peeled

  total_is : coordinate bs 0 ((peeling s).origin 0) ≡ coordinate bs 0 (org ts 0)
  total_is = ap (coordinate bs 0) (origin_here P 0 (omega (arith, outer_below P.labelled.sphere P.realizer (named ts))))

  weight_from_is : {g : ℕ} → Apex (length ts / 3) (label ls) g → weight_from bs (peeling s) (coordinate bs 0 ((peeling s).origin 0)) g
      ≡ weight_at ts ls bs (tri g)
  unfolding weight_from outer
  weight_from_is {g} a =
      let T = length ts / 3 in
      let l = apex-labels P.labelled.sphere P.realizer (named ts) a in
      let hd = next-below T g a.below in
      let he = prev-below T g a.below in
      let pq = runs_to_is P 1 (prev g) (omega arith) he (omega (arith, a.inner, tri-prev g)) l.1 ∙ ap (runs against ts ls) (prev-prev g) in
      let qr = runs_to_is P 2 g (omega arith) a.below a.inner a.two in
      let rp = runs_to_is P 0 (next g) (omega arith) hd (omega (arith, a.inner, tri-next g)) l.0 ∙ ap (runs against ts ls) (prev-next g) in
      rw (total_is, pq, qr, rp, origin_here P (next g) hd, origin_here P (prev g) he, origin_here P g a.below)
      (case_at ts ls P.labelled.sphere P.realizer bs (cornered ts bs D.corners) (whole P.labelled) D.sums against a)

  weight_of_is : (t : ℕ) → 0 < t → t < length ts / 3 → weight_of bs (peeling s) (coordinate bs 0 ((peeling s).origin 0)) t ≡ weight_at ts ls bs t
  unfolding weight_of
  weight_of_is t z h =
      let c = apex P.labelled.sphere P.realizer (named ts) t z h in
      rw (apex_dart-here P t c.0 z h c.1 c.2) (weight_from_is c.2 ∙ ap (weight_at ts ls bs) c.1)

  -- the weights are those of the definition
  pub weights_is : weights bs (peeling s) (2 * n - 5) ≡ backward ts ls bs
  unfolding weights backward inner
  weights_is =
      let k : length ts / 3 - 1 ≡ 2 * n - 5 = omega (arith, P.labelled.size) in
      rw k (map-range-same (weight_of bs (peeling s) (coordinate bs 0 ((peeling s).origin 0))) (weight_at ts ls bs) 1 (2 * n - 5)
      (λ t a b. weight_of_is t (omega arith) (omega (arith, k))))
