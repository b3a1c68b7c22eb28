-- The way back up: from v0 and v1 at their corners each vertex gets b1 from its left neighbour and b0 from its right one. Assumes nothing.
use Prim.Native.Nat.{ℕ, suc, ◌+◌, ◌-◌, ◌*◌, ◌/◌, ◌≤◌, ◌<◌, ◌^◌}
use Rattle.std.specs.Prelude.{◌≡◌, refl, ◌≢◌, List, ◌∷◌, length, set, ℤ, nat_abs}
use Rattle.std.proofs.Math.Path.{sym, ap, ap₂, subst}
use Rattle.std.proofs.Common.{◌∙◌}
use Rattle.std.proofs.Math.Logic.{inl, inr}
use mathlib.Core.List.Memᴰ
use native.Mathlib.Omega.{arith}
use Rattle.std.proofs.Math.Decide.{ℕ_discrete}
use Rattle.std.proofs.Math.ListN.{length-set}
use Rattle.std.proofs.Math.IntN.{pos, ◌+ℤ◌, +ℤ_idr}
use Rattle.definitions.specs.Mesh.{next, org, opp}
use Rattle.definitions.specs.Labels.{outer, label}
use Rattle.definitions.specs.Backward.{coordinate}
use Rattle.definitions.specs.Repair.{limit}
use Rattle.laws.specs.Lists.{◌∈◌}
use Rattle.theory_sphere.specs.Sphere.{Sphere}
use Rattle.theory_sphere.specs.Darts.{next-below}
use Rattle.theory_realizer.specs.Trace.{Trace, done, step, removed_vertices}
use Rattle.theory_realizer.specs.Realizer.{Realizer}
use Rattle.theory_sphere.specs.Rotations.{tip-opp}
use Rattle.theory_crossings.specs.Colours.{outer_below, from_v1_to_v0, from_v0_to_v1}
use Rattle.theory_crossings.specs.Tests.{named}
use Rattle.theory_inverse.specs.Drawings.{Drawing}
use Rattle.labels_tables.specs.Peeling.{Peeling}
use Rattle.labels_tables.specs.LabelledTables.{Stored}
use Rattle.maps_forward_model.specs.Removals.{Later, Removal, Removals}
use Rattle.maps_forward_model.specs.Model.{word_index, add, with_corners, with_left_b1, propagate, propagate_all, set_at, set_off, add_at, add_off}
use Rattle.maps_forward_model.specs.Model.{copy_at, copy_off, length-with_left_b1, length-propagate_all}
use Rattle.maps_forward_model.specs.Accumulate.{Settled}

-- the two additions of a vertex that comes back have room
pub record Ceiling (t : Peeling) (v : ℕ) (bs : List ℤ) : Type 0 where
  pub left : nat_abs (coordinate bs 1 v) + nat_abs (coordinate bs 1 (t.origin (next (t.left v)))) < 2 ^ 63
  pub right : nat_abs (coordinate (with_left_b1 t v bs) 0 v) + nat_abs (coordinate (with_left_b1 t v bs) 0 (t.origin (t.right v))) < 2 ^ 63

module _ {n : ℕ} (ts ls : List ℕ) (sph : Sphere n (length ts / 3) (org ts) (opp ts))
    (R : Realizer n (length ts / 3) (org ts) (opp ts) (label ls) (outer ts)) (t : Peeling)
    (origins : (d : ℕ) → d < 3 * (length ts / 3) → t.origin d ≡ org ts d) {F B0 B1 w : ℕ → ℤ}
    (D : Drawing (length ts / 3) (org ts) (opp ts) (label ls) (outer ts) w F B0 B1) where
  abbrev T : ℕ
  T = length ts / 3

  abbrev v : ℕ → ℕ
  v = outer ts

  -- ---- v0 and v1

  pub N_is : (B1 (org ts 2) ≡ F 2) × (B0 (org ts 0) ≡ F 2) × (B1 (org ts 0) ≡ pos 0) × (B0 (org ts 2) ≡ pos 0)
  unfolding next
  N_is =
      let h = outer_below sph R (named ts) in
      let z0 : B1 (org ts 0) ≡ pos 0 = sym (ap B1 (named ts).v0) ∙ D.zero0 in
      let z1 : B0 (org ts 2) ≡ pos 0 = sym (ap B0 (named ts).v1) ∙ D.zero1 in (
        D.down0 2 (from_v1_to_v0 sph R (named ts)) ∙ ap (λ (z : ℤ). F 2 +ℤ z) z0 ∙ +ℤ_idr (F 2),
        sym (ap B0 (sph.reverses 2 h)) ∙ D.down1 (opp ts 2) (from_v0_to_v1 sph R (named ts))
            ∙ ap₂ ◌+ℤ◌ (D.side 2 h) (ap B0 (tip-opp sph 2 h) ∙ z1) ∙ +ℤ_idr (F 2),
        z0,
        z1,
      )

  apart02 : org ts 0 ≢ org ts 2
  unfolding next
  apart02 q = sph.proper 2 (outer_below sph R (named ts)) (sym q)

  -- a vertex that has its coordinates
  abbrev pub Stands : List ℤ → ℕ → Type 0
  Stands bs i = (coordinate bs 0 i ≡ B0 i) × (coordinate bs 1 i ≡ B1 i)

  module _ (bs : List ℤ) (long : length bs ≡ 3 * n) where
    abbrev once : List ℤ
    once = set bs (word_index 1 (org ts 0)) (pos 0)

    abbrev both : List ℤ
    both = set once (word_index 0 (org ts 2)) (pos 0)

    long_both : length both ≡ 3 * n
    long_both = length-set once (word_index 0 (org ts 2)) (pos 0) ∙ length-set bs (word_index 1 (org ts 0)) (pos 0) ∙ long

    in0 : org ts 0 < n
    in0 = sph.vertex 0 (omega (arith, outer_below sph R (named ts)))

    in2 : org ts 2 < n
    in2 = sph.vertex 2 (outer_below sph R (named ts))

    -- all other words are as they were
    with_corners_off : (c i : ℕ) → word_index c i ≢ word_index 0 (org ts 0) → word_index c i ≢ word_index 1 (org ts 0) →
        word_index c i ≢ word_index 0 (org ts 2) → coordinate (with_corners (org ts 0) (org ts 2) bs) c i ≡ coordinate bs c i
    unfolding with_corners
    with_corners_off c i p q r =
        copy_off both (word_index 0 (org ts 0)) (word_index 1 (org ts 2)) c i p ∙ set_off once (pos 0) (word_index 0 (org ts 2)) c i r
        ∙ set_off bs (pos 0) (word_index 1 (org ts 0)) c i q

    with_corners_v1 : coordinate (with_corners (org ts 0) (org ts 2) bs) 1 (org ts 2) ≡ coordinate bs 1 (org ts 2)
    with_corners_v1 = with_corners_off 1 (org ts 2) (omega arith) (omega (arith, apart02)) (omega arith)

    pub corners_stand : coordinate bs 1 (org ts 2) ≡ F 2 → Stands (with_corners (org ts 0) (org ts 2) bs) (org ts 0)
        × Stands (with_corners (org ts 0) (org ts 2) bs) (org ts 2)
    unfolding with_corners
    corners_stand e =
        let k = N_is in
        let same : coordinate both 1 (org ts 2) ≡ coordinate bs 1 (org ts 2) =
        set_off once (pos 0) (word_index 0 (org ts 2)) 1 (org ts 2) (omega arith)
        ∙ set_off bs (pos 0) (word_index 1 (org ts 0)) 1 (org ts 2) (omega (arith, apart02)) in (
          (
            copy_at both 0 (org ts 0) 1 (org ts 2) (omega (arith, long_both, in0)) ∙ same ∙ e ∙ sym k.1,
            copy_off both (word_index 0 (org ts 0)) (word_index 1 (org ts 2)) 1 (org ts 0) (omega arith)
                ∙ set_off once (pos 0) (word_index 0 (org ts 2)) 1 (org ts 0) (omega arith)
                ∙ set_at bs (pos 0) 1 (org ts 0) (omega (arith, long, in0)) ∙ sym k.2,
          ),
          (
            copy_off both (word_index 0 (org ts 0)) (word_index 1 (org ts 2)) 0 (org ts 2) (omega (arith, apart02))
                ∙ set_at once (pos 0) 0 (org ts 2) (omega (arith, length-set bs (word_index 1 (org ts 0)) (pos 0), long, in2)) ∙ sym k.3,
            with_corners_v1 ∙ e ∙ sym k.0,
          ),
        )

    -- the others hold what they held
    pub settled-with_corners : {C : List ℕ} (tr : Trace T (org ts) (opp ts) C) → Removals T (org ts) (opp ts) (label ls) v tr →
        Settled T (org ts) (opp ts) F bs tr →
        Settled T (org ts) (opp ts) F (with_corners (org ts 0) (org ts 2) bs) tr
    settled-with_corners done tu k = with_corners_v1 ∙ k
    settled-with_corners (step e e' gs h o f s tr) tu k =
        let a = tu.0.not0 in
        let b = tu.0.not1 in (
          with_corners_off 1 (org ts e) (omega arith) (omega (arith, a)) (omega arith) ∙ k.0,
          with_corners_off 0 (org ts e) (omega (arith, a)) (omega arith) (omega (arith, b)) ∙ k.1,
          settled-with_corners tr tu.1 k.2,
        )

  -- ---- one vertex comes back

  module _ {e e' : ℕ} {gs C C' L : List ℕ} (turn : Removal T (org ts) (opp ts) (label ls) v e e' gs C C' L)
      (head : t.left (org ts e) ≡ e) (count : t.right (org ts e) ≡ e') (xs : List ℤ) (long : length xs ≡ 3 * n) where
    left-origin : t.origin (next e) ≡ org ts (next e)
    left-origin = origins (next e) (next-below T e turn.below)

    right_origin : t.origin e' ≡ org ts e'
    right_origin = origins e' turn.below'

    with_left_b1_is : with_left_b1 t (org ts e) xs ≡ add (word_index 1 (org ts e)) (word_index 1 (org ts (next e))) xs
    unfolding with_left_b1
    with_left_b1_is = rw (head, left-origin)

    propagate_is : propagate t (org ts e) xs ≡ add (word_index 0 (org ts e)) (word_index 0 (org ts e')) (with_left_b1 t (org ts e) xs)
    unfolding propagate
    propagate_is = rw (count, right_origin)

    v_in : org ts e < n
    v_in = sph.vertex e turn.below

    with_left_b1-0 : (i : ℕ) → coordinate (with_left_b1 t (org ts e) xs) 0 i ≡ coordinate xs 0 i
    with_left_b1-0 i = ap (λ (l : List ℤ). coordinate l 0 i) with_left_b1_is ∙ add_off xs (word_index 1 (org ts e)) (word_index 1 (org ts (next e))) 0 i (omega arith)

    -- the other vertices keep theirs
    propagate_off : (i : ℕ) → i ≢ org ts e → (coordinate (propagate t (org ts e) xs) 0 i ≡ coordinate xs 0 i)
        × (coordinate (propagate t (org ts e) xs) 1 i ≡ coordinate xs 1 i)
    propagate_off i h =
        let y = with_left_b1 t (org ts e) xs in (
          ap (λ (l : List ℤ). coordinate l 0 i) propagate_is ∙ add_off y (word_index 0 (org ts e)) (word_index 0 (org ts e')) 0 i (omega (arith, h))
              ∙ with_left_b1-0 i,
          ap (λ (l : List ℤ). coordinate l 1 i) propagate_is ∙ add_off y (word_index 0 (org ts e)) (word_index 0 (org ts e')) 1 i (omega arith)
              ∙ ap (λ (l : List ℤ). coordinate l 1 i) with_left_b1_is
              ∙ add_off xs (word_index 1 (org ts e)) (word_index 1 (org ts (next e))) 1 i (omega (arith, h)),
        )

    module _ (left : coordinate xs 1 (org ts e) ≡ F e) (right : coordinate xs 0 (org ts e) ≡ F e') (l : Stands xs (org ts (next e)))
        (r : Stands xs (org ts e')) where
      propagate_stands : Stands (propagate t (org ts e) xs) (org ts e)
      propagate_stands =
          let y = with_left_b1 t (org ts e) xs in
          let h = turn.below' in (
            ap (λ (l : List ℤ). coordinate l 0 (org ts e)) propagate_is
                ∙ add_at y 0 (org ts e) 0 (org ts e') (omega (arith, length-with_left_b1 t (org ts e) xs, long, v_in))
                ∙ ap₂ ◌+ℤ◌ (with_left_b1-0 (org ts e) ∙ right) (with_left_b1-0 (org ts e') ∙ r.0)
                ∙ sym (ap B0 (turn.meet ∙ sym (sph.reverses e' h)) ∙ D.down1 (opp ts e') turn.right
                ∙ ap₂ ◌+ℤ◌ (D.side e' h) (ap B0 (tip-opp sph e' h))),
            ap (λ (l : List ℤ). coordinate l 1 (org ts e)) propagate_is
                ∙ add_off y (word_index 0 (org ts e)) (word_index 0 (org ts e')) 1 (org ts e) (omega arith)
                ∙ ap (λ (l : List ℤ). coordinate l 1 (org ts e)) with_left_b1_is
                ∙ add_at xs 1 (org ts e) 1 (org ts (next e)) (omega (arith, long, v_in))
                ∙ ap₂ ◌+ℤ◌ left l.1 ∙ sym (D.down0 e turn.left),
          )

      propagate_room : nat_abs (F e) ≤ 2 * limit → nat_abs (F e') ≤ 2 * limit → nat_abs (B1 (org ts (next e))) ≤ limit →
          nat_abs (B0 (org ts e')) ≤ limit →
          Ceiling t (org ts e) xs
      propagate_room a b c d =
          record {
            left = rw (head, left-origin, left, l.1) (omega (arith, a, c));
            right = rw (count, right_origin, with_left_b1-0 (org ts e) ∙ right, with_left_b1-0 (org ts e') ∙ r.0) (omega (arith, b, d));
          }

  -- ---- all of them, from the last that left back to the first

  module _ (bs : List ℤ) (long : length bs ≡ 3 * n) (rim0 : Stands bs (org ts 0)) (rim1 : Stands bs (org ts 2))
      (small : (e e' : ℕ) (gs C C' L : List ℕ) → Removal T (org ts) (opp ts) (label ls) v e e' gs C C' L → (nat_abs (F e) ≤ 2 * limit)
      × (nat_abs (F e') ≤ 2 * limit))
      (near : (i : ℕ) → i < n → (nat_abs (B0 i) ≤ limit) × (nat_abs (B1 i) ≤ limit)) where
    abbrev after : ℕ → List ℤ
    after k = propagate_all t (n - 2) k bs

    long_after : (k : ℕ) → length (after k) ≡ 3 * n
    long_after k = length-propagate_all t (n - 2) k bs ∙ long

    after_next : (j i : ℕ) → j < n - 2 → t.order j ≡ i → after (n - 2 - j) ≡ propagate t i (after (n - 2 - suc j))
    unfolding propagate_all
    after_next j i h e =
        let p : n - 2 - j ≡ suc (n - 2 - suc j) = omega arith in
        let q : n - 2 - suc (n - 2 - suc j) ≡ j = omega arith in
        rw (p, q, e)

    after_none : (k : ℕ) → k ≡ 0 → after k ≡ bs
    unfolding propagate_all
    after_none k e = rw e

    stored-below : {C : List ℕ} (tr : Trace T (org ts) (opp ts) C) (j : ℕ) → Stored n T (org ts) (opp ts) t j tr → j ≤ n - 2
    stored-below done j s = omega (arith, s)
    stored-below (step e e' gs h o f s tr) j q = omega (arith, stored-below tr (suc j) q.3)

    abbrev Ceilings : {C : List ℕ} → ℕ → Trace T (org ts) (opp ts) C → Type 0
    Ceilings j done = Unit {0}
    Ceilings j (step e e' gs h o f s tr) = Ceiling t (t.order j) (after (n - 2 - suc j)) × Ceilings (suc j) tr

    -- when those that left from step j on are back
    record Back {C : List ℕ} (j : ℕ) (tr : Trace T (org ts) (opp ts) C) : Type 0 where
      stands : (i : ℕ) → Later (org ts) (removed_vertices T (org ts) (opp ts) tr) i → Stands (after (n - 2 - j)) i
      others : (i : ℕ) → (i ∈ removed_vertices T (org ts) (opp ts) tr → ⊥) →
          (coordinate (after (n - 2 - j)) 0 i ≡ coordinate bs 0 i) × (coordinate (after (n - 2 - j)) 1 i ≡ coordinate bs 1 i)
      ceilings : Ceilings j tr

    later-tail : (a : ℕ) (L : List ℕ) (i : ℕ) → i ≢ a → Later (org ts) (a ∷ L) i → Later (org ts) L i
    later-tail a L i h (inl m) = elim (Memᴰ.cases_cons m) [ inl p ↦ absurd (h p) | inr k ↦ inl k ]
    later-tail a L i h (inr k) = inr k

    propagates : {C : List ℕ} (tr : Trace T (org ts) (opp ts) C) (j : ℕ) → Stored n T (org ts) (opp ts) t j tr →
        Removals T (org ts) (opp ts) (label ls) v tr →
        Settled T (org ts) (opp ts) F bs tr → Back j tr
    unfolding removed_vertices
    propagates done j st tu se =
        let z = after_none (n - 2 - j) (omega (arith, st)) in
        record {
          stands = λ i k. rw z (elim k [
            | inl m ↦ absurd (Memᴰ.not-nil m)
            | inr (inl q) ↦ subst (Stands bs) (sym q) rim0
            | inr (inr q) ↦ subst (Stands bs) (sym q) rim1
          ]);
          others = λ i g. rw z (refl, refl);
          ceilings = tt;
        }
    propagates (step {C} {C'} e e' gs h o f s tr) j st tu se =
        let L = removed_vertices T (org ts) (opp ts) tr in
        let turn = tu.0 in
        let ih = propagates tr (suc j) st.3 tu.1 se.2 in
        let nx = after_next j (org ts e) (omega (arith, stored-below tr (suc j) st.3)) st.0 in
        let xs = after (n - 2 - suc j) in
        let lg = long_after (n - 2 - suc j) in
        let own = ih.others (org ts e) turn.gone in
        let a = own.1 ∙ se.0 in
        let b = own.0 ∙ se.1 in
        let l = ih.stands (org ts (next e)) turn.later_left in
        let r = ih.stands (org ts e') turn.later_right in
        let me = propagate_stands turn st.1 st.2 xs lg a b l r in
        let sm = small e e' gs C C' L turn in
        let nl = near (org ts (next e)) (sph.vertex (next e) (next-below T e turn.below)) in
        let nr = near (org ts e') (sph.vertex e' turn.below') in
        record {
          stands = λ i k. rw nx (elim (ℕ_discrete i (org ts e)) [
            | yes p ↦ subst (Stands (propagate t (org ts e) xs)) (sym p) me
            | no p ↦
                let q = propagate_off turn st.1 st.2 xs lg i p in
                let d = ih.stands i (later-tail (org ts e) L i p k) in
                (q.0 ∙ d.0, q.1 ∙ d.1)
          ]);
          others = λ i g.
              let q = propagate_off turn st.1 st.2 xs lg i (λ p. g (Memᴰ.head p)) in
              let d = ih.others i (λ m. g (Memᴰ.tail m)) in
              rw nx (q.0 ∙ d.0, q.1 ∙ d.1);
          ceilings = (rw st.0 (propagate_room turn st.1 st.2 xs lg a b l r sm.0 sm.1 nl.1 nr.0), ih.ceilings);
        }

    ceilings_at : {C : List ℕ} (tr : Trace T (org ts) (opp ts) C) (j : ℕ) → Stored n T (org ts) (opp ts) t j tr → Ceilings j tr → (k : ℕ) →
        j ≤ k → k < n - 2 →
        Ceiling t (t.order k) (after (n - 2 - suc k))
    ceilings_at done j s r k l h = absurd (omega (arith, s))
    ceilings_at (step e e' gs h o f s tr) j q r k l b =
        elim (ℕ_discrete k j) [
          | yes p ↦ subst (λ (x : ℕ). Ceiling t (t.order x) (after (n - 2 - suc x))) (sym p) r.0
          | no p ↦ ceilings_at tr (suc j) q.3 r.1 k (omega (arith, p)) b
        ]

    module _ (st : Stored n T (org ts) (opp ts) t 0 R.trace) (tu : Removals T (org ts) (opp ts) (label ls) v R.trace)
        (se : Settled T (org ts) (opp ts) F bs R.trace) where
      -- in the end every vertex stands where the drawing has it
      pub all_stand : (i : ℕ) → i < n → Stands (after (n - 2)) i
      all_stand i h =
          let b = propagates R.trace 0 st tu se in
          let z : n - 2 - 0 ≡ n - 2 = omega arith in
          rw z at (b.stands i (elim (ℕ_discrete i (v 0)) [
            | yes p ↦ inr (inl (p ∙ (named ts).v0))
            | no p ↦ elim (ℕ_discrete i (v 1)) [ yes q ↦ inr (inr (q ∙ (named ts).v1)) | no q ↦ inl (R.leaves i h p q) ]
          ]))

      pub ceilings : (k : ℕ) → k < n - 2 → Ceiling t (t.order (n - 2 - suc k)) (after k)
      ceilings k h =
          let z : n - 2 - suc (n - 2 - suc k) ≡ k = omega arith in
          rw z at (ceilings_at R.trace 0 st (propagates R.trace 0 st tu se).ceilings (n - 2 - suc k) (omega arith) (omega arith))
