-- What a walk moves by the words of repair: each vertex as often as the weight of the walk's first triangle is part of its coordinate, 1 by the preorder of
-- colour 0 and 0 by that of colour 1. Assumes nothing.
use Prim.Native.Nat.{ℕ, zero, suc, ◌+◌, ◌-◌, ◌*◌, ◌/◌, ◌≤◌, ◌<◌}
use Rattle.std.specs.Prelude.{◌≡◌, ◌≢◌, Bool, true, false, cond, eqb, length}
use Rattle.std.proofs.Math.Path.{refl, sym, ap}
use Rattle.std.proofs.Common.{◌∙◌, subst}
use mathlib.Core.List.{List, ◌∷◌}
use native.Mathlib.Omega.{arith}
use Rattle.std.proofs.Math.Decide.{ℕ_discrete}
use borrow.Author.Tests.{eq-eqb, ne_eqb, eqb-true, eqb-false}
use Rattle.definitions.specs.Mesh.{triangles_length, tri, next, prev, org, tip, opp}
use Rattle.definitions.specs.Labels.{outer, label, corner}
use Rattle.definitions.specs.Forward.{walk}
use Rattle.theory_sphere.specs.Sphere.{Sphere}
use Rattle.theory_sphere.specs.Darts.{tri-next, tri-prev, next-below, prev-below}
use Rattle.theory_realizer.specs.Realizer.{Realizer}
use Rattle.theory_realizer.specs.Units.{bit, unit0, unit1}
use Rattle.theory_crossings.specs.Colours.{Apex, apex-labels, points-below, tip-below}
use Rattle.theory_crossings.specs.Walks.{near, near-across, near_none, hits}
use Rattle.theory_crossings.specs.Tests.{named}
use Rattle.theory_subtrees.specs.Subtree.{times, Subtree}
use Rattle.scratch_tables.specs.Tables.{Tables}
use Rattle.labels_tables.specs.Peeling.{Peeling}
use Rattle.labels_tables.specs.LabelledTables.{apex_dart, Stored}
use Rattle.repair_model.specs.RemovalOrder.{removed_at, up0, up1, From, first, last, removed, RemovedVertex, leaves_at, removed-below, removed_not0}
use Rattle.repair_model.specs.RemovalOrder.{removed_not1}
use Rattle.repair_model.specs.RemovalOrder.{every_removed, removed-once}
use Rattle.repair_model.specs.Corners.{Describes, apex_is, apex-below, way_below, comes, org_into, tip_into, ends_are, into_dart, into_below}
use Rattle.scratch_tables.specs.Fields.{pack, field0, field1, field2, field3, field0_is, field1_is, field2_is, field3_is}
use Rattle.repair_model.specs.PackedWords.{walk_dart, end_flags}
use Rattle.repair_model.specs.PreorderWords.{move_word, Preordered}
use Rattle.repair_model.specs.Neighbours.{whole, U, onward-left, onward_right, zero_not-last, one-not-first, way_not-left, way_not_right}
use Rattle.repair_model.specs.Neighbours.{up0_is, up1_is, later0, later1, left-not-last, right_not-first}

-- How often the walk from triangle t on, of k steps at most, comes by vertex i in the preorder: f is the flag (1 or 2) of the words that move subtrees of that
-- preorder.
unfoldable pub times_moved : ℕ → (ℕ → ℕ) → (ℕ → ℕ) → ℕ → ℕ → ℕ → ℕ
unfolding field0 field1 field2 field3 times
times_moved f order op zero t i = 0
times_moved f order op (suc k) t i = elim (eqb t 0) [
  | true ↦ 0
  | false ↦ let w = op (3 * t) in cond (eqb (field3 w) f) (times order (field1 w) (field2 w) i) 0 + times_moved f order op k (field0 w) i
]

-- how often one word comes by it
unfoldable pub moved : ℕ → (ℕ → ℕ) → ℕ → ℕ → ℕ
unfolding field1 field2 field3 times
moved f order w i = cond (eqb (field3 w) f) (times order (field1 w) (field2 w) i) 0

module _ (f : ℕ) (order op : ℕ → ℕ) where
  pub times_moved_home : (k i : ℕ) → times_moved f order op k 0 i ≡ 0
  unfolding times_moved
  times_moved_home zero i = refl
  times_moved_home (suc k) i = refl

  pub times_moved-on : (k t i : ℕ) → t ≢ 0 → times_moved f order op (suc k) t i
      ≡ moved f order (op (3 * t)) i + times_moved f order op k (field0 (op (3 * t))) i
  unfolding times_moved moved
  times_moved-on k t i d = rw (ne_eqb t 0 d, times_moved)

pub moved-yes : (f : ℕ) (order : ℕ → ℕ) (w i : ℕ) → field3 w ≡ f → moved f order w i ≡ times order (field1 w) (field2 w) i
unfolding moved
moved-yes f order w i e = rw (eq-eqb (field3 w) f e)

pub moved_no : (f : ℕ) (order : ℕ → ℕ) (w i : ℕ) → field3 w ≢ f → moved f order w i ≡ 0
unfolding moved
moved_no f order w i d = rw (ne_eqb (field3 w) f d)

-- ---- on a labelled mesh

module _ {n : ℕ} (ts ls : List ℕ) (sph : Sphere n (length ts / 3) (org ts) (opp ts)) (size : length ts ≡ triangles_length n)
    (R : Realizer n (length ts / 3) (org ts) (opp ts) (label ls) (outer ts)) (T : Peeling) (D : Describes ts ls T) where
  abbrev Top : ℕ → Type 0
  Top g = Apex (length ts / 3) (label ls) g

  -- ---- one step of the walk

  module _ (t : ℕ) (z : 0 < t) (l : t < length ts / 3) where
    top : Top (apex_dart T t)
    top = apex-below ts ls sph (whole ts ls sph size R) R T D t z l

    leaves_by : next (apex_dart T t) < 3 * (length ts / 3)
    leaves_by = way_below ts ls sph (whole ts ls sph size R) R T D t z l

    comes_in : walk_dart T t ≡ opp ts (next (apex_dart T t))
    comes_in = comes ts ls sph (whole ts ls sph size R) R T D t z l

    walk-next : (k : ℕ) → walk ts ls (suc k) t ≡ next (apex_dart T t) ∷ walk ts ls k (tri (walk_dart T t))
    unfolding walk
    walk-next k =
        let g = apex_dart T t in
        let c : corner ls t 2 ≡ g = (apex_is ts ls sph (whole ts ls sph size R) R T D t z l).0 in
        rw (ne_eqb t 0 (omega arith), comes_in, walk, c)

    stays_in : tri (walk_dart T t) < length ts / 3
    stays_in = into_below ts ls sph (whole ts ls sph size R) R T D t z l

    -- it comes in by e exactly if it crosses the side of e, where e is no triangle's way out
    crosses-near : (e : ℕ) → e < 3 * (length ts / 3) → next (apex_dart T t) ≢ e →
        near (opp ts) (next (apex_dart T t)) e ≡ bit (eqb (walk_dart T t) e)
    crosses-near e h d =
        let g = apex_dart T t in
        rw comes_in
        (elim (ℕ_discrete (opp ts (next g)) e) [
          | yes q ↦ near-across (opp ts) (next g) e (sym (sph.twice (next g) leaves_by) ∙ ap (opp ts) q) ∙ sym (ap bit (eq-eqb (opp ts (next g)) e q))
          | no q ↦ near_none (opp ts) (next g) e d (λ r. q (ap (opp ts) r ∙ sph.twice e h)) ∙ sym (ap bit (ne_eqb (opp ts (next g)) e q))
        ])

    org-not-first : org ts (walk_dart T t) ≢ outer ts 0
    org-not-first e =
        one-not-first ts ls sph size R (prev (apex_dart T t)) (prev-below (length ts / 3) (apex_dart T t) top.below)
        (omega (arith, tri-prev (apex_dart T t), top.inner))
        (apex-labels sph R (named ts) top).1 (sym (org_into ts ls sph (whole ts ls sph size R) R T D t z l) ∙ e)

    tip-not-last : tip ts (walk_dart T t) ≢ outer ts 1
    tip-not-last e =
        zero_not-last ts ls sph size R (next (apex_dart T t)) leaves_by (omega (arith, tri-next (apex_dart T t), top.inner))
        (apex-labels sph R (named ts) top).0 (sym (tip_into ts ls sph (whole ts ls sph size R) R T D t z l) ∙ e)

  -- ---- one colour: the vertex `name j` leaves as the j-th, and its path goes on over the dart `dart j` to `up j`

  -- The word of a step that comes in by dart o: it moves the subtree of the vertex whose dart that is, if there is one.
  data Comes (f : ℕ) (name dart from many : ℕ → ℕ) (o x : ℕ) : Type 0 where
    moves : (k : ℕ) → k < n - 2 → field3 x ≡ f → field1 x ≡ from (name k) → field2 x ≡ many (name k) → o ≡ dart k →
        Comes f name dart from many o x
    rests : field3 x ≢ f → ((j : ℕ) → j < n - 2 → o ≢ dart j) → Comes f name dart from many o x

  record Colour (f : ℕ) (order op name up dart from many : ℕ → ℕ) : Type 0 where
    subtree : Subtree n (n - 2) name up order from many
    leads : (t : ℕ) → 0 < t → t < length ts / 3 → field0 (op (3 * t)) ≡ tri (walk_dart T t)
    comes_by : (t : ℕ) → 0 < t → t < length ts / 3 → Comes f name dart from many (walk_dart T t) (op (3 * t))
    low : (j : ℕ) → j < n - 2 → name j < n
    up_low : (j : ℕ) → j < n - 2 → up j < n
    not_first : (j : ℕ) → j < n - 2 → name j ≢ outer ts 0
    not_last : (j : ℕ) → j < n - 2 → name j ≢ outer ts 1
    same : (k j : ℕ) → k < n - 2 → j < n - 2 → name k ≡ name j → dart k ≡ dart j
    apart : (k j : ℕ) → k < n - 2 → j < n - 2 → dart k ≡ dart j → name k ≡ name j
    dart_low : (j : ℕ) → j < n - 2 → dart j < 3 * (length ts / 3)
    no_way : (j : ℕ) → j < n - 2 → (g : ℕ) → Top g → next g ≢ dart j
    later : (j : ℕ) → j < n - 2 → From n (outer ts) name (suc j) (up j)

  module _ {f : ℕ} {order op name up dart from many : ℕ → ℕ} (C : Colour f order op name up dart from many) where
    -- what a word that moves a subtree comes by
    subtree_moved : (x k i : ℕ) → k < n - 2 → i < n → field3 x ≡ f → field1 x ≡ from (name k) → field2 x ≡ many (name k) →
        moved f order x i ≡ C.subtree.sub (name k) i
    subtree_moved x k i h l e p q = moved-yes f order x i e ∙ rw (p, q) (C.subtree.range k i h l)

    step-onward : (o x j : ℕ) → j < n - 2 → Comes f name dart from many o x → moved f order x (name j) ≡ bit (eqb o (dart j)) + moved f order x (up j)
    step-onward o x j h (moves k l e p q c) =
        let a = subtree_moved x k (name j) l (C.low j h) e p q in
        let b = subtree_moved x k (up j) l (C.up_low j h) e p q in
        let on = C.subtree.onward k j l h in
        let same : bit (eqb (name k) (name j)) ≡ bit (eqb o (dart j)) =
        elim (ℕ_discrete (name k) (name j)) [
          | yes r ↦ rw (eq-eqb (name k) (name j) r, eq-eqb o (dart j) (c ∙ C.same k j l h r))
          | no r ↦ rw (ne_eqb (name k) (name j) r, ne_eqb o (dart j) (λ v. r (C.apart k j l h (sym c ∙ v))))
        ] in
        omega (arith, a, b, on, same)
    step-onward o x j h (rests e c) =
        omega (arith, moved_no f order x (name j) e, moved_no f order x (up j) e, ap bit (ne_eqb o (dart j) (c j h)))

    step_outside : (o x i : ℕ) → i < n → ((j : ℕ) → j < n - 2 → name j ≢ i) → Comes f name dart from many o x → moved f order x i ≡ 0
    step_outside o x i h d (moves k l e p q c) = subtree_moved x k i l h e p q ∙ C.subtree.outside k i l h d
    step_outside o x i h d (rests e c) = moved_no f order x i e

    -- the walk: the vertex `name j` is moved as often as the walk crosses its dart, and as often as `up j`
    onward : (k t j : ℕ) → t < length ts / 3 → j < n - 2 →
        times_moved f order op k t (name j) ≡ hits (opp ts) (walk ts ls k t) (dart j) + times_moved f order op k t (up j)
    unfolding times_moved hits walk
    onward zero t j l h = refl
    onward (suc k) t j l h =
        elim (ℕ_discrete t 0) [
          | yes z ↦ rw (z, times_moved_home f order op (suc k) (name j), times_moved_home f order op (suc k) (up j))
          | no d ↦
              let z : 0 < t = omega arith in
              let x = op (3 * t) in
              let o = walk_dart T t in
              let e = C.leads t z l in
              let a = times_moved-on f order op k t (name j) d ∙ ap (λ (s : ℕ). moved f order x (name j) + times_moved f order op k s (name j)) e in
              let b = times_moved-on f order op k t (up j) d ∙ ap (λ (s : ℕ). moved f order x (up j) + times_moved f order op k s (up j)) e in
              let s = step-onward o x j h (C.comes_by t z l) in
              let on = onward k (tri o) j (stays_in t z l) h in
              let c = ap (λ (ds : List ℕ). hits (opp ts) ds (dart j)) (walk-next t z l k) in
              let m = crosses-near t z l (dart j) (C.dart_low j h) (C.no_way j h (apex_dart T t) (top t z l)) in
              omega (arith, a, b, s, on, c, m)
        ]

    outside : (k t i : ℕ) → t < length ts / 3 → i < n → ((j : ℕ) → j < n - 2 → name j ≢ i) → times_moved f order op k t i ≡ 0
    unfolding times_moved
    outside zero t i l h d = refl
    outside (suc k) t i l h d =
        elim (ℕ_discrete t 0) [
          | yes z ↦ rw (z, times_moved_home f order op (suc k) i)
          | no q ↦
              let z : 0 < t = omega arith in
              let x = op (3 * t) in
              let e = C.leads t z l in
              let a = times_moved-on f order op k t i q ∙ ap (λ (s : ℕ). moved f order x i + times_moved f order op k s i) e in
              omega (arith, a, step_outside (walk_dart T t) x i h d (C.comes_by t z l), outside k (tri (walk_dart T t)) i (stays_in t z l) h d)
        ]

    -- A number at each vertex that keeps the same equation, with 0 at the end of the paths, is that sum; `other` is where no path goes.
    module _ (k u : ℕ) (l : u < length ts / 3) (unit : ℕ → ℕ) (other : ℕ)
        (unit-on : (j : ℕ) → j < n - 2 → unit (name j) ≡ hits (opp ts) (walk ts ls k u) (dart j) + unit (up j))
        (up-other : (j : ℕ) → j < n - 2 → up j ≢ other)
        (end0 : outer ts 0 ≢ other → unit (outer ts 0) ≡ 0) (end1 : outer ts 1 ≢ other → unit (outer ts 1) ≡ 0)
        (below0 : outer ts 0 < n) (below1 : outer ts 1 < n) where
      at-end : (q i : ℕ) → From n (outer ts) name q i → ((j : ℕ) → q ≤ j → j < n - 2 → name j ≡ i → times_moved f order op k u i ≡ unit i) →
          i ≢ other →
          times_moved f order op k u i ≡ unit i
      at-end q i (first e) r d = rw e (outside k u (outer ts 0) l below0 C.not_first ∙ sym (end0 (λ c. d (e ∙ c))))
      at-end q i (last e) r d = rw e (outside k u (outer ts 1) l below1 C.not_last ∙ sym (end1 (λ c. d (e ∙ c))))
      at-end q i (removed j p h e) r d = r j p h e

      agrees : (m q i : ℕ) → n - 2 ≤ m + q → From n (outer ts) name q i → i ≢ other → times_moved f order op k u i ≡ unit i
      agrees zero q i b F d = at-end q i F (λ j p h e. absurd (omega arith)) d
      agrees (suc m) q i b F d =
          at-end q i F
          (λ j p h e. rw (sym e) (omega (arith, onward k u j l h, unit-on j h, agrees m (suc j) (up j) (omega arith) (C.later j h) (up-other j h)))) d

-- ---- the flags

left_bits : (x y : Bool) → bit x + 2 * bit y ≡ 1 → (x ≡ true) × (y ≡ false)
left_bits true true e = absurd (omega arith)
left_bits true false e = (refl, refl)
left_bits false true e = absurd (omega arith)
left_bits false false e = absurd (omega arith)

right_bits : (x y : Bool) → bit x + 2 * bit y ≡ 2 → (x ≡ false) × (y ≡ true)
right_bits true true e = absurd (omega arith)
right_bits true false e = absurd (omega arith)
right_bits false true e = (refl, refl)
right_bits false false e = absurd (omega arith)

module _ (T : Peeling) (o a b : ℕ) where
  side_left : T.left a ≡ o → T.right b ≢ o → end_flags T o a b ≡ 1
  unfolding end_flags
  side_left e d = rw (eq-eqb (T.left a) o e, ne_eqb (T.right b) o d)

  side_right : T.left a ≢ o → T.right b ≡ o → end_flags T o a b ≡ 2
  unfolding end_flags
  side_right d e = rw (ne_eqb (T.left a) o d, eq-eqb (T.right b) o e)

  left-side : end_flags T o a b ≡ 1 → (T.left a ≡ o) × (T.right b ≢ o)
  unfolding end_flags
  left-side e =
      let r = left_bits (eqb (T.left a) o) (eqb (T.right b) o) e in
      (eqb-true (T.left a) o r.0, eqb-false (T.right b) o r.1)

  right_side : end_flags T o a b ≡ 2 → (T.left a ≢ o) × (T.right b ≡ o)
  unfolding end_flags
  right_side e =
      let r = right_bits (eqb (T.left a) o) (eqb (T.right b) o) e in
      (eqb-false (T.left a) o r.0, eqb-true (T.right b) o r.1)

-- The tables of the trace; the last dart of the frontier, from v1 to v0, is to stand in them too, so that its word moves nothing.
module _ {n : ℕ} (ts ls : List ℕ) (sph : Sphere n (length ts / 3) (org ts) (opp ts)) (size : length ts ≡ triangles_length n)
    (R : Realizer n (length ts / 3) (org ts) (opp ts) (label ls) (outer ts)) (T : Peeling) (D : Describes ts ls T)
    (stored : Stored n (length ts / 3) (org ts) (opp ts) T 0 R.trace) (last-left : T.left (outer ts 1) ≡ 2) (last-right : T.right (outer ts 0) ≡ 2)
  where
    Leaves : ℕ → Type 0
    Leaves k = RemovedVertex n (length ts / 3) (org ts) (opp ts) (label ls) (outer ts) (removed_at T) (T.left (removed_at T k)) (T.right (removed_at T k)) k
        (removed_at T k)

    at : (k : ℕ) → k < n - 2 → Leaves k
    unfolding Leaves
    at k l = leaves_at sph R (named ts) T stored k l

    -- the outer side from v1 to v0
    last-ends : (tip ts 2 ≡ outer ts 0) × (org ts 2 ≡ outer ts 1)
    unfolding tip next
    last-ends = (sym (named ts).v0, sym (named ts).v1)

    module _ (t : ℕ) (z : 0 < t) (l : t < length ts / 3) where
      abbrev o : ℕ
      o = walk_dart T t

      abbrev side : ℕ
      side = end_flags T o (org ts o) (tip ts o)

      org_low : org ts o < n
      org_low = sph.vertex o (into_dart ts ls sph (whole ts ls sph size R) R T D t z l)

      tip_low : tip ts o < n
      unfolding tip
      tip_low = sph.vertex (next o) (next-below (length ts / 3) o (into_dart ts ls sph (whole ts ls sph size R) R T D t z l))

      -- if o is the dart to the left of a vertex that leaves, it is not the dart from the right of the other end: each would leave before the other
      left_only : (k : ℕ) → k < n - 2 → T.left (removed_at T k) ≡ o → T.right (tip ts o) ≢ o
      unfolding Leaves tip
      left_only k h e q = go (at k h).later
        where
          from : org ts o ≡ removed_at T k
          from = ap (org ts) (sym e) ∙ (at k h).from

          back : (j : ℕ) → suc k ≤ j → From n (outer ts) (removed_at T) (suc j) (org ts o) → ⊥
          back j p (first r) = removed_not0 sph R (named ts) T stored k h (sym from ∙ r)
          back j p (last r) = removed_not1 sph R (named ts) T stored k h (sym from ∙ r)
          back j p (removed i b m r) = omega (arith, removed-once sph R (named ts) T stored i k m h (r ∙ from))

          go : From n (outer ts) (removed_at T) (suc k) (org ts (next (T.left (removed_at T k)))) → ⊥
          go (first r) =
              let two : o ≡ 2 = sym q ∙ ap T.right (ap (λ (d : ℕ). org ts (next d)) (sym e) ∙ r) ∙ last-right in
              removed_not1 sph R (named ts) T stored k h (sym from ∙ ap (org ts) two ∙ last-ends.1)
          go (last r) = tip-not-last ts ls sph size R T D t z l (ap (λ (d : ℕ). org ts (next d)) (sym e) ∙ r)
          go (removed j p m r) =
              let c : T.right (removed_at T j) ≡ o = ap T.right (r ∙ ap (λ (d : ℕ). org ts (next d)) e) ∙ q in
              back j p (subst (From n (outer ts) (removed_at T) (suc j)) (ap (org ts) c) (at j m).later')

      -- a vertex leaves whose dart o is, and o is not the last dart of the frontier
      left_leaves : T.left (org ts o) ≡ o → T.right (tip ts o) ≢ o → (k : ℕ) × (k < n - 2) × (removed_at T k ≡ org ts o)
      left_leaves e d =
          every_removed sph R (named ts) T stored (org ts o) org_low (org-not-first ts ls sph size R T D t z l)
          (λ r.
          let two : o ≡ 2 = sym e ∙ ap T.left r ∙ last-left in
          d (ap T.right (ap (tip ts) two ∙ last-ends.0) ∙ last-right ∙ sym two))

      right_leaves : T.left (org ts o) ≢ o → T.right (tip ts o) ≡ o → (k : ℕ) × (k < n - 2) × (removed_at T k ≡ tip ts o)
      right_leaves d e =
          every_removed sph R (named ts) T stored (tip ts o) tip_low
          (λ r.
          let two : o ≡ 2 = sym e ∙ ap T.right r ∙ last-right in
          d (ap T.left (ap (org ts) two ∙ last-ends.1) ∙ last-left ∙ sym two))
          (tip-not-last ts ls sph size R T D t z l)

      pub flag-left : side ≡ 1 → (k : ℕ) × (k < n - 2) × (removed_at T k ≡ org ts o)
      flag-left e = let s = left-side T o (org ts o) (tip ts o) e in left_leaves s.0 s.1

      pub flag_right : side ≡ 2 → (k : ℕ) × (k < n - 2) × (removed_at T k ≡ tip ts o)
      flag_right e = let s = right_side T o (org ts o) (tip ts o) e in right_leaves s.0 s.1

      -- and the flags say so
      left-flag : (j : ℕ) → j < n - 2 → o ≡ T.left (removed_at T j) → side ≡ 1
      unfolding Leaves
      left-flag j h e =
          let from : org ts o ≡ removed_at T j = ap (org ts) e ∙ (at j h).from in
          side_left T o (org ts o) (tip ts o) (ap T.left from ∙ sym e) (left_only j h (sym e))

      right_flag : (j : ℕ) → j < n - 2 → o ≡ T.right (removed_at T j) → side ≡ 2
      unfolding Leaves tip
      right_flag j h e = side_right T o (org ts o) (tip ts o) not_left (ap T.right to ∙ sym e)
        where
          to : tip ts o ≡ removed_at T j
          to = ap (tip ts) e ∙ (at j h).to

          not_left : T.left (org ts o) ≢ o
          not_left q =
              elim (ℕ_discrete (org ts o) (outer ts 1)) [
                | yes r ↦
                    let two : o ≡ 2 = sym q ∙ ap T.left r ∙ last-left in
                    removed_not0 sph R (named ts) T stored j h (sym to ∙ ap (tip ts) two ∙ last-ends.0)
                | no r ↦
                    let k = every_removed sph R (named ts) T stored (org ts o) org_low (org-not-first ts ls sph size R T D t z l) r in
                    left_only k.0 k.1 (ap T.left k.2 ∙ q) (ap T.right to ∙ sym e)
              ]

    -- ---- the words

    module _ (most : n ≤ 4096) (S : Tables) (P : Preordered n T S) where
      module _ (t : ℕ) (z : 0 < t) (l : t < length ts / 3) where
        abbrev word : ℕ
        word = S.op (3 * t)

        -- in the mesh's own terms
        preordered : word ≡ cond (eqb (side t z l) 1) (pack (tri (o t z l)) (P.from0 (org ts (o t z l))) (P.size0 (org ts (o t z l))) 1)
            (cond (eqb (side t z l) 2) (pack (tri (o t z l)) (P.from1 (tip ts (o t z l))) (P.size1 (tip ts (o t z l))) 2)
            (pack (tri (o t z l)) (org ts (o t z l)) (tip ts (o t z l)) (side t z l)))
        unfolding move_word
        preordered =
            let e = ends_are ts ls sph (whole ts ls sph size R) R T D t z l in
            P.moves t z (omega (arith, size)) ∙ rw (e.0, e.1)

        tri_low : tri (o t z l) < 65536
        tri_low = omega (arith, into_below ts ls sph (whole ts ls sph size R) R T D t z l, size, most)

        -- a word that moves a subtree of colour 0, of colour 1, or none
        module _ (k : ℕ) (h : k < n - 2) (e : side t z l ≡ 1) (q : removed_at T k ≡ org ts (o t z l)) where
          left_word : word ≡ pack (tri (o t z l)) (P.from0 (removed_at T k)) (P.size0 (removed_at T k)) 1
          left_word = rw q (preordered ∙ rw (eq-eqb (side t z l) 1 e))

          left-parts : (field0 word ≡ tri (o t z l)) × (field1 word ≡ P.from0 (removed_at T k)) × (field2 word ≡ P.size0 (removed_at T k))
              × (field3 word ≡ 1)
          left-parts =
              let f = P.subtree0.fits k h in
              let a = tri (o t z l) in
              let b = P.from0 (removed_at T k) in
              let c = P.size0 (removed_at T k) in (
                field0_is a b c 1 word left_word tri_low (omega (arith, f, most)) (omega (arith, f, most)),
                field1_is a b c 1 word left_word tri_low (omega (arith, f, most)) (omega (arith, f, most)),
                field2_is a b c 1 word left_word tri_low (omega (arith, f, most)) (omega (arith, f, most)),
                field3_is a b c 1 word left_word tri_low (omega (arith, f, most)) (omega (arith, f, most)),
              )

        module _ (k : ℕ) (h : k < n - 2) (e : side t z l ≡ 2) (q : removed_at T k ≡ tip ts (o t z l)) where
          right_word : word ≡ pack (tri (o t z l)) (P.from1 (removed_at T k)) (P.size1 (removed_at T k)) 2
          right_word = rw q (preordered ∙ rw (ne_eqb (side t z l) 1 (omega (arith, e)), eq-eqb (side t z l) 2 e))

          right_parts : (field0 word ≡ tri (o t z l)) × (field1 word ≡ P.from1 (removed_at T k)) × (field2 word ≡ P.size1 (removed_at T k))
              × (field3 word ≡ 2)
          right_parts =
              let f = P.subtree1.fits k h in
              let a = tri (o t z l) in
              let b = P.from1 (removed_at T k) in
              let c = P.size1 (removed_at T k) in (
                field0_is a b c 2 word right_word tri_low (omega (arith, f, most)) (omega (arith, f, most)),
                field1_is a b c 2 word right_word tri_low (omega (arith, f, most)) (omega (arith, f, most)),
                field2_is a b c 2 word right_word tri_low (omega (arith, f, most)) (omega (arith, f, most)),
                field3_is a b c 2 word right_word tri_low (omega (arith, f, most)) (omega (arith, f, most)),
              )

        module _ (p : side t z l ≢ 1) (q : side t z l ≢ 2) where
          other_word : word ≡ pack (tri (o t z l)) (org ts (o t z l)) (tip ts (o t z l)) (side t z l)
          other_word = preordered ∙ rw (ne_eqb (side t z l) 1 p, ne_eqb (side t z l) 2 q)

          other-parts : (field0 word ≡ tri (o t z l)) × (field3 word ≡ side t z l)
          other-parts =
              let a = tri (o t z l) in
              let b = org ts (o t z l) in
              let c = tip ts (o t z l) in (
                field0_is a b c (side t z l) word other_word tri_low (omega (arith, org_low t z l, most)) (omega (arith, tip_low t z l, most)),
                field3_is a b c (side t z l) word other_word tri_low (omega (arith, org_low t z l, most)) (omega (arith, tip_low t z l, most)),
              )

        -- where it leads, and its flag
        parts : (field0 word ≡ tri (o t z l)) × (field3 word ≡ side t z l)
        parts =
            elim (ℕ_discrete (side t z l) 1) [
              | yes e ↦ let k = flag-left t z l e in let p = left-parts k.0 k.1 e k.2 in (p.0, p.3 ∙ sym e)
              | no d ↦
                  elim (ℕ_discrete (side t z l) 2) [
                    | yes e ↦ let k = flag_right t z l e in let p = right_parts k.0 k.1 e k.2 in (p.0, p.3 ∙ sym e)
                    | no q ↦ other-parts d q
                  ]
            ]

        left_comes : Comes ts ls sph size R T D 1 (removed_at T) (λ k. T.left (removed_at T k)) P.from0 P.size0 (o t z l) word
        left_comes =
            elim (ℕ_discrete (side t z l) 1) [
              | yes e ↦
                  let k = flag-left t z l e in
                  let p = left-parts k.0 k.1 e k.2 in
                  moves k.0 k.1 p.3 p.1 p.2 (sym (ap T.left k.2 ∙ (left-side T (o t z l) (org ts (o t z l)) (tip ts (o t z l)) e).0))
              | no d ↦ rests (λ q. d (sym parts.1 ∙ q)) (λ j h q. d (left-flag t z l j h q))
            ]

        right_comes : Comes ts ls sph size R T D 2 (removed_at T) (λ k. T.right (removed_at T k)) P.from1 P.size1 (o t z l) word
        right_comes =
            elim (ℕ_discrete (side t z l) 2) [
              | yes e ↦
                  let k = flag_right t z l e in
                  let p = right_parts k.0 k.1 e k.2 in
                  moves k.0 k.1 p.3 p.1 p.2 (sym (ap T.right k.2 ∙ (right_side T (o t z l) (org ts (o t z l)) (tip ts (o t z l)) e).1))
              | no d ↦ rests (λ q. d (sym parts.1 ∙ q)) (λ j h q. d (right_flag t z l j h q))
            ]

      -- what the words lead to and move
      pub leads_in : (t : ℕ) → 0 < t → t < 2 * n - 4 → field0 (S.op (3 * t)) < 2 * n - 4
      leads_in t z h =
          let l : t < length ts / 3 = omega (arith, size) in
          omega (arith, (parts t z l).0, stays_in ts ls sph size R T D t z l, size)

      pub moves-left : (t : ℕ) → 0 < t → t < 2 * n - 4 → field3 (S.op (3 * t)) ≡ 1 → (field1 (S.op (3 * t)) + field2 (S.op (3 * t)) ≤ n)
          × ((j : ℕ) → field1 (S.op (3 * t)) ≤ j → j < field1 (S.op (3 * t)) + field2 (S.op (3 * t)) → S.count j < n)
      moves-left t z h e =
          let l : t < length ts / 3 = omega (arith, size) in
          let s = sym (parts t z l).1 ∙ e in
          let k = flag-left t z l s in
          let p = left-parts t z l k.0 k.1 s k.2 in
          rw (p.1, p.2) (P.subtree0.fits k.0 k.1, λ j a b. P.subtree0.low k.0 j k.1 a b)

      pub moves_right : (t : ℕ) → 0 < t → t < 2 * n - 4 → field3 (S.op (3 * t)) ≡ 2 → (field1 (S.op (3 * t)) + field2 (S.op (3 * t)) ≤ n)
          × ((j : ℕ) → field1 (S.op (3 * t)) ≤ j → j < field1 (S.op (3 * t)) + field2 (S.op (3 * t)) → S.mark (2 * j) < n)
      moves_right t z h e =
          let l : t < length ts / 3 = omega (arith, size) in
          let s = sym (parts t z l).1 ∙ e in
          let k = flag_right t z l s in
          let p = right_parts t z l k.0 k.1 s k.2 in
          rw (p.1, p.2) (P.subtree1.fits k.0 k.1, λ j a b. P.subtree1.low k.0 j k.1 a b)

      -- ---- the two colours

      left_colour : Colour ts ls sph size R T D 1 S.count S.op (removed_at T) (up0 T)
          (λ k. T.left (removed_at T k)) P.from0 P.size0
      unfolding Leaves tip
      left_colour =
          record {
            subtree = P.subtree0;
            leads = λ t z l. (parts t z l).0;
            comes_by = left_comes;
            low = λ j h. removed-below sph R (named ts) T stored j h;
            up_low = λ j h. rw (up0_is ts ls sph size R T D stored j h) (tip-below sph R (named ts) (at j h).colour0);
            not_first = λ j h. removed_not0 sph R (named ts) T stored j h;
            not_last = λ j h. removed_not1 sph R (named ts) T stored j h;
            same = λ k j h m e. ap T.left e;
            apart = λ k j h m e. sym (at k h).from ∙ ap (org ts) e ∙ (at j m).from;
            dart_low = λ j h. points-below sph R (named ts) (at j h).colour0;
            no_way = λ j h g a. way_not-left ts ls sph size R g a (T.left (removed_at T j)) (at j h).colour0;
            later = later0 ts ls sph size R T D stored;
          }

      right_colour : Colour ts ls sph size R T D 2 (λ j. S.mark (2 * j)) S.op (removed_at T) (up1 T)
          (λ k. T.right (removed_at T k)) P.from1 P.size1
      unfolding Leaves
      right_colour =
          record {
            subtree = P.subtree1;
            leads = λ t z l. (parts t z l).0;
            comes_by = right_comes;
            low = λ j h. removed-below sph R (named ts) T stored j h;
            up_low = λ j h. rw (up1_is ts ls sph size R T D stored j h) (sph.vertex (T.right (removed_at T j)) (at j h).below);
            not_first = λ j h. removed_not0 sph R (named ts) T stored j h;
            not_last = λ j h. removed_not1 sph R (named ts) T stored j h;
            same = λ k j h m e. ap T.right e;
            apart = λ k j h m e. sym (at k h).to ∙ ap (λ (d : ℕ). org ts (next d)) e ∙ (at j m).to;
            dart_low = λ j h. (at j h).below;
            no_way = λ j h g a. way_not_right ts ls sph size R g a (T.right (removed_at T j)) (at j h).below (at j h).colour1;
            later = later1 ts ls sph size R T D stored;
          }

      -- ---- the walk of u

      every : (i : ℕ) → i < n → From n (outer ts) (removed_at T) 0 i
      every i l =
          elim (ℕ_discrete i (outer ts 0)) [
            | yes e ↦ first e
            | no p ↦
                elim (ℕ_discrete i (outer ts 1)) [
                  | yes e ↦ last e
                  | no q ↦ let r = every_removed sph R (named ts) T stored i l p q in removed r.0 (omega arith) r.1 r.2
                ]
          ]

      first_low : outer ts 0 < n
      first_low = rw (named ts).v0 (sph.vertex 0 (omega (arith, sph.least, sph.size)))

      last_low : outer ts 1 < n
      last_low = rw (named ts).v1 (sph.vertex 2 (omega (arith, sph.least, sph.size)))

      module _ (u : ℕ) (z : 0 < u) (h : u < 2 * n - 4) where
        steps : 2 * n - 4 ≡ length ts / 3
        steps = omega (arith, size)

        inner : u < length ts / 3
        inner = omega (arith, steps)

        -- by the preorder of colour 0 a vertex is moved as often as the weight of u is part of its coordinate 1, but for v1
        pub times_moved-1 : (i : ℕ) → i < n → i ≢ outer ts 1 → times_moved 1 S.count S.op (2 * n - 4) u i ≡ unit1 n ts ls u i
        unfolding Leaves
        times_moved-1 i l d =
            rw steps
            (agrees ts ls sph size R T D left_colour (length ts / 3) u inner (unit1 n ts ls u) (outer ts 1)
            (λ j m.
            rw (up0_is ts ls sph size R T D stored j m)
            (onward-left ts ls sph size R u z inner (removed_at T) (T.left (removed_at T j)) (T.right (removed_at T j)) j (removed_at T j) (at j m)))
            (left-not-last ts ls sph size R T D stored) (λ q. ((U ts ls sph size R).rim0 u z inner).1) (λ q. absurd (q refl)) first_low last_low (n - 2) 0 i
            (omega arith) (every i l) d)

        pub times_moved-1-last : times_moved 1 S.count S.op (2 * n - 4) u (outer ts 1) ≡ 0
        times_moved-1-last = outside ts ls sph size R T D left_colour (2 * n - 4) u (outer ts 1) inner last_low
            (λ j m. removed_not1 sph R (named ts) T stored j m)

        -- by the preorder of colour 1 the same for coordinate 0, but for v0
        pub times_moved-2 : (i : ℕ) → i < n → i ≢ outer ts 0 → times_moved 2 (λ j. S.mark (2 * j)) S.op (2 * n - 4) u i ≡ unit0 n ts ls u i
        unfolding Leaves
        times_moved-2 i l d =
            rw steps
            (agrees ts ls sph size R T D right_colour (length ts / 3) u inner (unit0 n ts ls u) (outer ts 0)
            (λ j m.
            rw (up1_is ts ls sph size R T D stored j m)
            (onward_right ts ls sph size R u z inner (removed_at T) (T.left (removed_at T j)) (T.right (removed_at T j)) j (removed_at T j) (at j m)))
            (right_not-first ts ls sph size R T D stored) (λ q. absurd (q refl)) (λ q. ((U ts ls sph size R).rim1 u z inner).0) first_low last_low (n - 2) 0 i
            (omega arith) (every i l) d)

        pub times_moved-2-first : times_moved 2 (λ j. S.mark (2 * j)) S.op (2 * n - 4) u (outer ts 0) ≡ 0
        times_moved-2-first = outside ts ls sph size R T D right_colour (2 * n - 4) u (outer ts 0) inner first_low
            (λ j m. removed_not0 sph R (named ts) T stored j m)
