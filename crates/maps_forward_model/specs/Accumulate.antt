-- The way down: after all vertices have left, each holds the sums that were on its left and on its right when it left, and v1 holds N.
-- Assumes nothing.
use Rattle.std.specs.Prelude.{ℕ, suc, ◌-◌, ◌*◌, ◌/◌, ◌≤◌, ◌<◌, ◌≡◌, refl, ◌≢◌, length, ℤ, pos, nat_abs}
use Rattle.std.proofs.Math.Path.{sym, ap}
use Rattle.std.proofs.Common.{◌∙◌, subst, inl, inr, arith}
use mathlib.Core.List.Memᴰ
use mathlib.Core.List.{List, [], ◌∷◌}
use Rattle.std.proofs.Math.Decide.{ℕ_discrete}
use Rattle.definitions.specs.Mesh.{prev, org, opp}
use Rattle.definitions.specs.Labels.{outer, label}
use Rattle.definitions.specs.Forward.{weight}
use Rattle.definitions.specs.Backward.{coordinate}
use Rattle.definitions.specs.Repair.{limit}
use Rattle.laws.specs.Lists.{◌∈◌}
use Rattle.laws.specs.Every.{Every, every_in}
use Rattle.laws.specs.Covers.{in_every}
use Rattle.theory_sphere.specs.Sphere.{Sphere}
use Rattle.theory_realizer.specs.Trace.{edge, Step, here, there, Trace, done, step, removed_vertices}
use Rattle.theory_realizer.specs.Realizer.{Realizer}
use Rattle.theory_realizer.specs.Edges.{edge-org}
use Rattle.theory_crossings.specs.Colours.{outer_below, from_v0_to_v2, from_v1_to_v2}
use Rattle.theory_crossings.specs.Tests.{named}
use Rattle.theory_inverse.specs.Drawings.{Drawing}
use Rattle.labels_tables.specs.Peeling.{Peeling}
use Rattle.labels_tables.specs.LabelledTables.{Stored}
use Rattle.maps_forward_model.specs.Removals.{Later, Removal, Removals, fan-below, step-new, step_after}
use Rattle.maps_forward_model.specs.Model.{accumulate, accumulate_all, length-accumulate_all}
use Rattle.maps_forward_model.specs.RemovalStep.{Room, Tabled, accumulate-0, accumulate_0v, accumulate_off, accumulate_v, accumulate-new, accumulate_room}

-- the two darts that a step takes away were there
step-pair : {T : ℕ} {o f : ℕ → ℕ} {e e' : ℕ} {gs C C' : List ℕ} → Step T o f e e' gs C C' → (e ∈ C) × (e' ∈ C)
step-pair here = (Memᴰ.head refl, Memᴰ.tail (Memᴰ.head refl))
step-pair (there d s) = let r = step-pair s in (Memᴰ.tail r.0, Memᴰ.tail r.1)

module _ (T : ℕ) (org opp : ℕ → ℕ) (F : ℕ → ℤ) (bs : List ℤ) where
  -- the frontier's sums stand where its darts start
  abbrev pub Holds : ℕ → Type 0
  Holds x = coordinate bs 1 (org x) ≡ F x

  -- what each vertex that left holds, and v1
  abbrev pub Settled : {C : List ℕ} → Trace T org opp C → Type 0
  Settled done = coordinate bs 1 (org 2) ≡ F 2
  Settled (step e e' gs h o f s tr) = (coordinate bs 1 (org e) ≡ F e) × (coordinate bs 0 (org e) ≡ F e') × Settled tr

module _ {n : ℕ} (ts ls : List ℕ) (sph : Sphere n (length ts / 3) (org ts) (opp ts))
    (R : Realizer n (length ts / 3) (org ts) (opp ts) (label ls) (outer ts)) (fuel : ℕ) (t : Peeling) (tabled : Tabled n fuel ts t) (ws bs : List ℤ)
    (long : length bs ≡ 3 * n) where
  abbrev T : ℕ
  T = length ts / 3

  abbrev v : ℕ → ℕ
  v = outer ts

  abbrev state : ℕ → List ℤ
  state k = accumulate_all fuel t ws k bs

  long_state : (k : ℕ) → length (state k) ≡ 3 * n
  long_state k = length-accumulate_all fuel t ws k bs ∙ long

  -- one more step
  state-next : (k i : ℕ) → t.order k ≡ i → state (suc k) ≡ accumulate fuel t ws i (state k)
  unfolding accumulate_all
  state-next k i e = rw e

  -- a vertex that is not to leave keeps its words
  away : (a : ℕ) (L : List ℕ) (i : ℕ) → (i ∈ L → ⊥) → i ≢ org ts 0 → i ≢ org ts 2 → Later (org ts) L a → a ≢ i
  away a L i g z0 z1 (inl m) e = g (subst (λ (x : ℕ). x ∈ L) e m)
  away a L i g z0 z1 (inr (inl q)) e = z0 (sym e ∙ q)
  away a L i g z0 z1 (inr (inr q)) e = z1 (sym e ∙ q)

  persists : {C : List ℕ} (tr : Trace T (org ts) (opp ts) C) (k : ℕ) → Stored n T (org ts) (opp ts) t k tr →
      Removals T (org ts) (opp ts) (label ls) v tr → (i : ℕ) →
      (i ∈ removed_vertices T (org ts) (opp ts) tr → ⊥) → i ≢ org ts 0 → i ≢ org ts 2 →
      (coordinate (state (n - 2)) 0 i ≡ coordinate (state k) 0 i) × (coordinate (state (n - 2)) 1 i ≡ coordinate (state k) 1 i)
  unfolding removed_vertices
  persists done k st tu i g z0 z1 = rw st (refl, refl)
  persists (step {C} {C'} e e' gs h o f s tr) k st tu i g z0 z1 =
      let turn = tu.0 in
      let ih = persists tr (suc k) st.3 tu.1 i (λ m. g (Memᴰ.tail m)) z0 z1 in
      let nx = state-next k (org ts e) st.0 in
      let off : (x : ℕ) → x ∈ gs → org ts (prev x) ≢ i =
      λ x m q.
      let y = edge T (org ts) (opp ts) x in
      away (org ts y) (removed_vertices T (org ts) (opp ts) tr) i (λ k. g (Memᴰ.tail k)) z0 z1
      (turn.starts y (step-new s (Memᴰ.map (edge T (org ts) (opp ts)) m)))
      (edge-org sph x (fan-below f m) ∙ q) in (
        ih.0 ∙ ap (λ (l : List ℤ). coordinate l 0 i) nx ∙ accumulate-0 ts ls sph R fuel t tabled ws turn st.1 st.2 (state k) (long_state k) i
            (λ q. g (Memᴰ.head q)),
        ih.1 ∙ ap (λ (l : List ℤ). coordinate l 1 i) nx ∙ accumulate_off ts ls sph R fuel t tabled ws turn st.1 st.2 (state k) (long_state k) i off,
      )

  -- ---- the sums of a drawing

  abbrev Rooms : {C : List ℕ} → ℕ → Trace T (org ts) (opp ts) C → Type 0
  Rooms k done = Unit {0}
  Rooms k (step e e' gs h o f s tr) = Room fuel t ws (t.order k) (state k) × Rooms (suc k) tr

  module _ {F B0 B1 : ℕ → ℤ} (D : Drawing T (org ts) (opp ts) (label ls) v (weight ws) F B0 B1) where
    -- one step: the sums of the new frontier
    held_next : {e e' : ℕ} {gs C C' L : List ℕ} (turn : Removal T (org ts) (opp ts) (label ls) v e e' gs C C' L) → t.left (org ts e) ≡ e →
        t.right (org ts e) ≡ e' →
        (xs : List ℤ) → length xs ≡ 3 * n → Every (Holds T (org ts) (opp ts) F xs) C →
        Every (Holds T (org ts) (opp ts) F (accumulate fuel t ws (org ts e) xs)) C'
    held_next {e} {e'} {gs} {C} {C'} turn hd ct xs lg k =
        let pair = step-pair turn.steps in
        let at : (x : ℕ) → x ∈ C → Holds T (org ts) (opp ts) F xs x = λ x m. every_in (Holds T (org ts) (opp ts) F xs) k m in
        in_every (Holds T (org ts) (opp ts) F (accumulate fuel t ws (org ts e) xs)) C' (λ x m.
        elim (step_after turn.steps turn.apart m) [
          | inl new ↦
              let g = Memᴰ.of_map (edge T (org ts) (opp ts)) gs new in
              subst (Holds T (org ts) (opp ts) F (accumulate fuel t ws (org ts e) xs)) g.2
              (accumulate-new ts ls sph R fuel t tabled ws turn hd ct xs lg D (at e pair.0) (at e' pair.1) g.0 g.1)
          | inr old ↦
              accumulate_off ts ls sph R fuel t tabled ws turn hd ct xs lg (org ts x)
              (λ g l q. old.1 (edge T (org ts) (opp ts) g) (Memᴰ.map (edge T (org ts) (opp ts)) l) (edge-org sph g (fan-below turn.fan l) ∙ q))
              ∙ at x old.0
        ])

    module _ (small : (e e' : ℕ) (gs C C' L : List ℕ) → Removal T (org ts) (opp ts) (label ls) v e e' gs C C' L → (nat_abs (F e) ≤ 2 * limit)
        × (nat_abs (F e') ≤ 2 * limit))
        (weights : (x : ℕ) → nat_abs (weight ws x) ≤ limit) where
      accumulates : {C : List ℕ} (tr : Trace T (org ts) (opp ts) C) (k : ℕ) → Stored n T (org ts) (opp ts) t k tr →
          Removals T (org ts) (opp ts) (label ls) v tr →
          Every (Holds T (org ts) (opp ts) F (state k)) C → Settled T (org ts) (opp ts) F (state (n - 2)) tr × Rooms k tr
      accumulates done k st tu held = (subst (λ (j : ℕ). coordinate (state j) 1 (org ts 2) ≡ F 2) st held.0, tt)
      accumulates (step {C} {C'} e e' gs h o f s tr) k st tu held =
          let turn = tu.0 in
          let nx = state-next k (org ts e) st.0 in
          let pair = step-pair s in
          let at : (x : ℕ) → x ∈ C → Holds T (org ts) (opp ts) F (state k) x = λ x m. every_in (Holds T (org ts) (opp ts) F (state k)) held m in
          let held' = held_next turn st.1 st.2 (state k) (long_state k) held in
          let rest = accumulates tr (suc k) st.3 tu.1 (rw nx held') in
          let stay = persists tr (suc k) st.3 tu.1 (org ts e) turn.gone turn.not0 turn.not1 in
          let b = small e e' gs C C' (removed_vertices T (org ts) (opp ts) tr) turn in (
            (
              stay.1 ∙ ap (λ (l : List ℤ). coordinate l 1 (org ts e)) nx
                  ∙ accumulate_v ts ls sph R fuel t tabled ws turn st.1 st.2 (state k) (long_state k) ∙ at e pair.0,
              stay.0 ∙ ap (λ (l : List ℤ). coordinate l 0 (org ts e)) nx
                  ∙ accumulate_0v ts ls sph R fuel t tabled ws turn st.1 st.2 (state k) (long_state k) ∙ at e' pair.1,
              rest.0,
            ),
            (
              rw st.0 (accumulate_room ts ls sph R fuel t tabled ws turn st.1 st.2 (state k) (long_state k) D (at e pair.0) (at e' pair.1) b.0
                  b.1 weights),
              rest.1,
            ),
          )

      -- the first frontier carries nothing: its two sides have colour 2 as well
      module _ (st : Stored n T (org ts) (opp ts) t 0 R.trace) (tu : Removals T (org ts) (opp ts) (label ls) v R.trace)
          (none : (i : ℕ) → coordinate bs 1 i ≡ pos 0) where
        start : Every (Holds T (org ts) (opp ts) F (state 0)) (opp ts 0 ∷ opp ts 1 ∷ [])
        unfolding accumulate_all
        start =
            let h = outer_below sph R (named ts) in (
              none (org ts (opp ts 0)) ∙ sym (D.side 0 (omega arith) ∙ D.two 0 (from_v0_to_v2 sph R (named ts))),
              (none (org ts (opp ts 1)) ∙ sym (D.two (opp ts 1) (from_v1_to_v2 sph R (named ts))), tt),
            )

        pub settled : Settled T (org ts) (opp ts) F (state (n - 2)) R.trace
        settled = (accumulates R.trace 0 st tu start).0

        rooms_at : {C : List ℕ} (tr : Trace T (org ts) (opp ts) C) (j : ℕ) → Stored n T (org ts) (opp ts) t j tr → Rooms j tr → (k : ℕ) →
            j ≤ k → k < n - 2 →
            Room fuel t ws (t.order k) (state k)
        rooms_at done j s r k l h = absurd (omega (arith, s))
        rooms_at (step e e' gs h o f s tr) j q r k l b =
            elim (ℕ_discrete k j) [
              | yes p ↦ subst (λ (x : ℕ). Room fuel t ws (t.order x) (state x)) (sym p) r.0
              | no p ↦ rooms_at tr (suc j) q.3 r.1 k (omega (arith, p)) b
            ]

        pub rooms : (k : ℕ) → k < n - 2 → Room fuel t ws (t.order k) (state k)
        rooms k h = rooms_at R.trace 0 st (accumulates R.trace 0 st tu start).1 k (omega arith) h
