-- Which vertex leaves next: the work's counters tell just those that can be removed, and the smallest of them is the definition's choice. Assumes nothing.
use Rattle.std.specs.Prelude.{ℕ, ◌*◌, ◌/◌, ◌<◌, ◌≡◌, ◌≢◌, false, ◌&&◌, ◌||◌, length}
use Rattle.std.proofs.Math.Path.{sym, ap}
use Rattle.std.proofs.Common.{subst, ◌∙◌, inl, inr, arith}
use Rattle.std.proofs.Math.Bool.{true, not}
use mathlib.Core.List.{List, ◌∷◌, ◌++◌}
use Rattle.std.proofs.Math.Option.{Option, some}
use Rattle.std.proofs.Math.Dec.{eqb}
use borrow.Author.Tests.{eqb-true}
use Rattle.definitions.specs.Lists.{all, filter}
use Rattle.definitions.specs.Mesh.{next, org, opp}
use Rattle.definitions.specs.Labels.{Peeling as State, before, after, outer, frontier_neighbours, removable, next_removable}
use Rattle.laws.specs.Lists.{tested, untrue, and_both, elem-true, true-elem, filter_in, in_filter, minimum_some}
use Rattle.theory_sphere.specs.Sphere.{Sphere}
use Rattle.theory_peeling.specs.Inside.{three, Inv, Chordless, org_opp2, tip_opp2}
use Rattle.theory_peeling.specs.Vertices.{state, removable-inner, removable_chordless, two-removable, outer0, outer1}
use Rattle.labels_tables.specs.Peeling.{Peeling}
use Rattle.labels_model.specs.Model.{is_removable}
use Rattle.labels_model.proofs.Candidates.{can_true, true_can}
use Rattle.labels_model.specs.NeighbourCounts.{met}
use Rattle.labels_model.specs.FrontierInsert.{Marked}
use Rattle.labels_model.specs.FrontierInvariant.{on, Stood, on_below, beside, neighbours_met}

module _ (n : ℕ) (ts : List ℕ) (s : Sphere n (length ts / 3) (org ts) (opp ts)) (len : 3 * (length ts / 3) ≡ length ts) where
  abbrev T : ℕ
  T = length ts / 3

  abbrev o : ℕ → ℕ
  o = org ts

  abbrev z : ℕ
  z = opp ts 2

  -- what the counter of a vertex says
  pub counted : (D : List ℕ) (t : Peeling) → Marked n ts (on ts D) t → (x : ℕ) → x < n → t.degree x ≡ 3 → (on ts D x ≡ true)
      × (met ts (on ts D) x ≡ 2)
  counted D t M x h e =
      elim (tested (on ts D x)) [
        | inl a ↦ (a, omega (arith, rw a at (M x h), e))
        | inr a ↦ absurd (omega (arith, rw a at (M x h), e))
      ]

  pub count-two : (D : List ℕ) (t : Peeling) → Marked n ts (on ts D) t → (x : ℕ) → x < n → on ts D x ≡ true → met ts (on ts D) x ≡ 2 →
      t.degree x ≡ 3
  count-two D t M x h a e = omega (arith, rw a at (M x h), e)

  -- ---- the definition's choice

  module _ {R D P : List ℕ} {t : Peeling} (v : Inv n T o (opp ts) R D) (st : Stood n ts R D P t) where
    abbrev p : State
    p = state ts R D P

    v0_is : t.origin 0 ≡ o 0
    v0_is = st.meshed.origins 0 (omega (arith, three s))

    v1_is : t.origin 2 ≡ o 2
    v1_is = st.meshed.origins 2 (omega (arith, three s))

    not_z : (x : ℕ) → x ≢ o 0 → x ≢ o z
    not_z x h e = h (e ∙ org_opp2 s)

    not_end : (x : ℕ) → x ≢ o 2 → x ≢ o (next z)
    not_end x h e = h (e ∙ tip_opp2 s)

    -- the counter of a vertex that can be removed is 2
    pub removable_can : (x : ℕ) → on ts D x ≡ true → removable ts p x ≡ true → is_removable t x ≡ true
    unfolding removable
    removable_can x a r =
        let i = removable-inner ts p x r in
        let c = (and_both (not (eqb x (outer ts 0)) && not (eqb x (outer ts 1)) && eqb (length (frontier_neighbours ts p x)) 2)
        (all (λ u. eqb u (before x p.frontier) || eqb u (after x p.frontier)) (frontier_neighbours ts p x)) r).0 in
        let d = (and_both (not (eqb x (outer ts 0)) && not (eqb x (outer ts 1))) (eqb (length (frontier_neighbours ts p x)) 2) c).1 in
        true_can t x
        (count-two D t st.marked x (on_below n ts s len v x a) a (sym (neighbours_met n ts s len v P x)
        ∙ eqb-true (length (frontier_neighbours ts p x)) 2 d))
        (λ e. i.0 (e ∙ v0_is ∙ sym (outer0 ts))) (λ e. i.1 (e ∙ v1_is ∙ sym (outer1 ts)))

    -- and a vertex whose counter is 2 can be removed
    pub can_removable : (x : ℕ) → x < n → is_removable t x ≡ true → (on ts D x ≡ true) × (removable ts p x ≡ true)
    can_removable x h c =
        let r = can_true t x c in
        let not0 : x ≢ o 0 = λ e. r.1 (e ∙ sym v0_is) in
        let not1 : x ≢ o 2 = λ e. r.2 (e ∙ sym v1_is) in
        let m = counted D t st.marked x h r.0 in
        let b = beside n ts s len v x m.0 (not_z x not0) (not_end x not1) in
        (m.0, go D b.0 b.1 b.2 b.3 b.4 v b.5 (neighbours_met n ts s len v P x ∙ m.1) not0 not1)
      where
        go : (X A : List ℕ) (e e' : ℕ) (B : List ℕ) → X ≡ A ++ e ∷ e' ∷ B → Inv n T o (opp ts) R X → o e ≡ x →
            length (frontier_neighbours ts (state ts R X P) x) ≡ 2 → x ≢ o 0 → x ≢ o 2
            → removable ts (state ts R X P) x ≡ true
        go X A e e' B q u y l a c =
            rw (q, sym y) (two-removable n ts s len R P A e e' B (rw q at u) (rw (q, sym y) at l) (λ k. a (sym y ∙ k ∙ outer0 ts))
            (λ k. c (sym y ∙ k ∙ outer1 ts)))

    -- the vertex that the definition chooses, and its place on the frontier
    pub record Chosen : Type 0 where
      pub A : List ℕ
      pub e : ℕ
      pub e' : ℕ
      pub B : List ℕ
      pub parts : D ≡ A ++ e ∷ e' ∷ B
      pub alone : Chordless T o (opp ts) R D (o e)
      pub least : next_removable ts p ≡ some (o e)
      pub can_leave : is_removable t (o e) ≡ true
      pub below : o e < n
      pub first : (x : ℕ) → x < o e → is_removable t x ≡ false

    pub chosen : (w : ℕ) → next_removable ts p ≡ some w → Chosen
    unfolding next_removable
    chosen w c =
        let r = minimum_some (filter (removable ts p) p.frontier) w c in
        let k = filter_in (removable ts p) p.frontier r.0 in
        let a : on ts D w ≡ true = true-elem k.0 in
        let i = removable-inner ts p w k.1 in
        let b = beside n ts s len v w a (not_z w (λ e. i.0 (e ∙ sym (outer0 ts)))) (not_end w (λ e. i.1 (e ∙ sym (outer1 ts)))) in
        let wn = on_below n ts s len v w a in
        let y = b.5 in
        record {
          A = b.0;
          e = b.1;
          e' = b.2;
          B = b.3;
          parts = b.4;
          alone = lone D b.0 b.1 b.2 b.3 b.4 v (subst (λ (z : ℕ). removable ts p z ≡ true) (sym y) k.1);
          least = c ∙ ap {B = Option ℕ} some (sym y);
          can_leave = rw y (removable_can w a k.1);
          below = rw y wn;
          first = λ x h. untrue (is_removable t x) (λ q.
              let m = can_removable x (omega (arith, y)) q in
              absurd (omega (arith, y, r.1 x (in_filter (removable ts p) (elem-true x p.frontier m.0) m.1))));
        }
      where
        lone : (X A : List ℕ) (e e' : ℕ) (B : List ℕ) → X ≡ A ++ e ∷ e' ∷ B → Inv n T o (opp ts) R X →
            removable ts (state ts R X P) (o e) ≡ true → Chordless T o (opp ts) R X (o e)
        lone X A e e' B q u h = rw q (removable_chordless n ts s len R P A e e' B (rw q at u) (rw q at h))
