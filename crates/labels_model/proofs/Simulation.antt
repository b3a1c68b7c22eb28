-- The work on the tables follows the peeling of the definition, vertex by vertex, to its end. Assumes nothing.
use Prim.Native.Nat.{ℕ, zero, suc, ◌+◌, ◌-◌, ◌*◌, ◌/◌, ◌≤◌, ◌<◌}
use Rattle.std.specs.Prelude.{◌≡◌, refl, ◌≢◌, ◌⊎◌}
use Rattle.std.proofs.Common.{sym, ◌∙◌, inl, inr, arith}
use Rattle.std.proofs.Math.Path.{ap}
use mathlib.Core.List.Memᴰ
use mathlib.Core.List.{List, [], ◌∷◌, ◌++◌, append_assoc, append-nil}
use Rattle.std.proofs.Math.Option.{some}
use Rattle.std.proofs.Math.Decide.{ℕ_discrete}
use Rattle.std.proofs.Math.ListN.{length, length-map}
use Rattle.definitions.specs.Lists.{iterate}
use Rattle.definitions.specs.Mesh.{next, org, opp}
use Rattle.definitions.specs.Labels.{Peeling as State, next_removable, remove, step}
use Rattle.laws.specs.Lists.{◌∈◌, dec_in, upto_in, length-upto}
use Rattle.laws.specs.Counting.{cons, distinct_within, distinct_upto}
use Rattle.theory_sphere.specs.Sphere.{Sphere}
use Rattle.theory_peeling.specs.Inside.{Inside, Inv, Chordless, two}
use Rattle.theory_peeling.specs.Fan.{gs, D', leaves}
use Rattle.theory_peeling.specs.RemoveStep.{goes_on, empty, left_over}
use Rattle.theory_peeling.specs.Peel.{Peel, over, trace, passes, final}
use Rattle.theory_peeling.specs.Vertices.{state, remove_is}
use Rattle.theory_peeling.specs.Run.{run}
use Rattle.labels_tables.specs.Peeling.{Peeling}
use Rattle.labels_model.specs.Model.{find_removable, remove_vertex, remove_next, remove_all}
use Rattle.labels_model.specs.Counters.{Meshed, mesh-range, with_sets_beside, with_sets-degree}
use Rattle.labels_model.specs.Candidates.{Candidates}
use Rattle.labels_model.proofs.Candidates.{candidates_remove_vertex}
use Rattle.labels_model.specs.MinSearch.{Lowest, Sought}
use Rattle.labels_model.proofs.MinSearch.{sought}
use Rattle.labels_model.specs.LabelTriangle.{Coded}
use Rattle.labels_model.specs.FrontierInvariant.{Stood, stood_same}
use Rattle.labels_model.proofs.Step.{left_is, right_is, left-kept, right_kept, order-here, order-kept, stands}
use Rattle.labels_model.proofs.Choice.{chosen}
use Rattle.labels_model.specs.Simulation.{remove_all-suc, Turn, Standing, Followed}

step_is : (ts : List ℕ) (p : State) (w : ℕ) → next_removable ts p ≡ some w → step ts p ≡ remove ts p w
unfolding step
step_is ts p w t = rw (t, step)

module _ (n : ℕ) (ts : List ℕ) (s : Sphere n (length ts / 3) (org ts) (opp ts)) (len : 3 * (length ts / 3) ≡ length ts) where
  abbrev T : ℕ
  T = length ts / 3

  abbrev o : ℕ → ℕ
  o = org ts

  abbrev op : ℕ → ℕ
  op = opp ts

  -- all but v0 and v1 have left
  two-left : (R : List ℕ) → ((w : ℕ) → w < n → (w ∈ R → ⊥) → (w ≡ o (op 2)) ⊎ (w ≡ o (next (op 2)))) → n ≤ length R + 2
  two-left R h =
      let c = distinct_within (distinct_upto n) (o (op 2) ∷ o (next (op 2)) ∷ R) (λ w m. elim (dec_in w R) [
        | yes k ↦ Memᴰ.tail (Memᴰ.tail k)
        | no a ↦ elim (h w (upto_in n m) a) [ inl t ↦ Memᴰ.head t | inr t ↦ Memᴰ.tail (Memᴰ.head t) ]
      ]) in
      omega (arith, c, length-upto n)

  -- ---- the vertex that leaves next

  module _ {i : ℕ} {R D P : List ℕ} {t : Peeling} (S : Standing n ts s len i R D P t) where
    turn-here : (A : List ℕ) (e e' : ℕ) (B : List ℕ) (u : Inv n T o op R (A ++ e ∷ e' ∷ B)) → Chordless T o op R (A ++ e ∷ e' ∷ B) (o e) →
        next_removable ts (state ts R (A ++ e ∷ e' ∷ B) P) ≡ some (o e) → Lowest n t (o e) → Turn n ts s len R (A ++ e ∷ e' ∷ B) P t
    turn-here A e e' B u l h low = record {
      e = e;
      e' = e';
      fan = gs s R A e e' B u;
      after = D' s R A e e' B u;
      leaves = leaves s R A e e' B u l;
      stepped = step_is ts (state ts R (A ++ e ∷ e' ∷ B) P) (o e) h ∙ remove_is n ts s len R P A e e' B u l;
      lowest = low;
    }

    turn_at : (A : List ℕ) (e e' : ℕ) (B X : List ℕ) → X ≡ A ++ e ∷ e' ∷ B → Inv n T o op R X → Chordless T o op R X (o e) →
        next_removable ts (state ts R X P) ≡ some (o e) → Lowest n t (o e) → Turn n ts s len R X P t
    turn_at A e e' B X q u l h low = rw q (turn-here A e e' B (rw q at u) (rw q at l) (rw q at h) low)

    -- there is one as long as not all but v0 and v1 have left
    pub turn : i + 2 < n → Turn n ts s len R D P t
    unfolding iterate
    turn h =
        let k = n - (i + 3) in
        let x = (run n ts s len (suc k) R D P S.inv S.distinct S.below (omega (arith, S.many))).moves 0 (omega arith) in
        let c = chosen n ts s len S.inv S.stood x.0 x.1 in
        turn_at c.A c.e c.e' c.B D c.parts S.inv c.alone c.least (record {
          candidates = S.candidates;
          below = c.below;
          able = c.can_leave;
          first = c.first;
        })

    module _ (m : Turn n ts s len R D P t) where
      abbrev v : ℕ
      v = o m.e

      -- the tables after the search
      abbrev pub t₁ : Peeling
      t₁ = (find_removable n n t).tables

      search_is : Sought n t v (find_removable n n t)
      search_is = sought t m.lowest

      pub found : (find_removable n n t).vertex ≡ v
      found = search_is.here

      pub stood₁ : Stood n ts R D P t₁
      stood₁ = rw search_is.tables (stood_same (with_sets_beside t₁.sets t) (with_sets-degree t₁.sets t) S.stood)

      -- the search changes the sets alone
      same_left : (x : ℕ) → t₁.left x ≡ t.left x
      same_left x = ap (λ (p : Peeling). p.left x) search_is.tables ∙ ap (λ (f : ℕ → ℕ). f x) (with_sets_beside t₁.sets t).lefts

      same_right : (x : ℕ) → t₁.right x ≡ t.right x
      same_right x = ap (λ (p : Peeling). p.right x) search_is.tables ∙ ap (λ (f : ℕ → ℕ). f x) (with_sets_beside t₁.sets t).rights

      same-order : (j : ℕ) → t₁.order j ≡ t.order j
      same-order j = ap (λ (p : Peeling). p.order j) search_is.tables ∙ ap (λ (f : ℕ → ℕ). f j) (with_sets_beside t₁.sets t).orders

      -- the tables after the vertex has left
      abbrev t₂ : Peeling
      t₂ = remove_vertex n i v t₁

      pub turned : remove_next n i t ≡ t₂
      unfolding remove_next
      turned = rw found

      next_stands : Stood n ts (v ∷ R) m.after (P ++ m.fan) t₂
      next_stands = stands n ts s len S.inv m.leaves stood₁ i

      in_range : (d : ℕ) → d < 3 * T → d < 3 * (2 * n - 4)
      in_range d h = omega (arith, s.size)

      next_candidates : Candidates n n t₂
      next_candidates =
          candidates_remove_vertex n i v t₁ (mesh-range s len stood₁.meshed)
          (rw (left_is n ts s len S.inv m.leaves stood₁ i) (in_range m.e (S.inv.this m.e (Memᴰ.tail m.leaves.this)).below))
          (rw (right_is n ts s len S.inv m.leaves stood₁ i) (in_range m.e' (S.inv.this m.e' (Memᴰ.tail m.leaves.that)).below))
          search_is.candidates

      -- unless it was the last
      next_standing : next m.e ≢ op 2 → Standing n ts s len (suc i) (v ∷ R) m.after (P ++ m.fan) t₂
      next_standing ne = record {
        inv = goes_on s S.inv m.leaves ne;
        distinct = cons {x = v} (S.inv.this m.e (Memᴰ.tail m.leaves.this)).from S.distinct;
        below = λ x h. elim (Memᴰ.cases_cons h) [ inl q ↦ rw q m.lowest.below | inr y ↦ S.below x y ];
        many = omega (arith, S.many);
        stood = next_stands;
        candidates = next_candidates;
      }

      -- and it is not while there are others
      pub next_stood : i + 3 < n → Standing n ts s len (suc i) (v ∷ R) m.after (P ++ m.fan) t₂
      next_stood h = next_standing (λ la. absurd (omega (arith, two-left (v ∷ R) (left_over s S.inv m.leaves la), S.many)))

  -- ---- the run

  -- no further vertex
  ended : (i : ℕ) (R X P : List ℕ) (t : Peeling) → X ≡ 2 ∷ [] → ((d : ℕ) → Inside T o R d → ⊥) →
      ((w : ℕ) → w < n → (w ∈ R → ⊥) → (w ≡ o (op 2)) ⊎ (w ≡ o (next (op 2))))
      → Meshed ts t → Coded P t → i ≡ n - 2 → Followed n ts s len 0 i R X P t t
  unfolding iterate passes final trace
  ended i R X P t q a b m c e =
      rw q (record {
        peel = over a b;
        ends = ap (λ (x : List ℕ). state ts R (2 ∷ []) x) (sym (append-nil P));
        meshed = m;
        coded = rw (append-nil P) c;
        stored = e;
        lefts = λ r m. refl;
        rights = λ r m. refl;
        order = λ j h. refl;
      })

  module _ {i : ℕ} {R D P : List ℕ} {t : Peeling} (S : Standing n ts s len i R D P t) (k : ℕ) (m : Turn n ts s len R D P t) where
    onward : Followed n ts s len k (suc i) (o m.e ∷ R) m.after (P ++ m.fan) (t₂ S m) (remove_all n k (suc i) (t₂ S m)) →
        Followed n ts s len (suc k) i R D P t (remove_all n (suc k) i t)
    unfolding iterate passes final trace
    onward r =
        let v = o m.e in
        let lv = m.leaves in
        let st = stood₁ S m in
        rw (remove_all-suc n k i t, turned S m) (record {
          peel = Peel.step m.e m.e' m.fan S.inv lv r.peel;
          ends = rw m.stepped (r.ends ∙ ap (λ (x : List ℕ). state ts (final r.peel) (2 ∷ []) x) (append_assoc P m.fan (passes r.peel)));
          meshed = r.meshed;
          coded = rw (append_assoc P m.fan (passes r.peel)) at r.coded;
          stored = (
            r.order i (omega arith) ∙ order-here n ts s len S.inv lv st i,
            r.lefts v (Memᴰ.head refl) ∙ left-kept n ts s len S.inv lv st i v (Memᴰ.head refl) ∙ left_is n ts s len S.inv lv st i,
            r.rights v (Memᴰ.head refl) ∙ right_kept n ts s len S.inv lv st i v (Memᴰ.head refl) ∙ right_is n ts s len S.inv lv st i,
            r.stored,
          );
          lefts = λ x h. r.lefts x (Memᴰ.tail h) ∙ left-kept n ts s len S.inv lv st i x (Memᴰ.tail h) ∙ same_left S m x;
          rights = λ x h. r.rights x (Memᴰ.tail h) ∙ right_kept n ts s len S.inv lv st i x (Memᴰ.tail h) ∙ same_right S m x;
          order = λ j h. r.order j (omega arith) ∙ order-kept n ts s len S.inv lv st i j (omega arith) ∙ same-order S m j;
        })

    finish : next m.e ≡ op 2 → k ≡ 0 → suc i ≡ n - 2 → Followed n ts s len (suc k) i R D P t (remove_all n (suc k) i t)
    unfolding remove_all
    finish la z c =
        onward (rw z (ended (suc i) (o m.e ∷ R) m.after (P ++ m.fan) (t₂ S m) (m.leaves.ends la) (empty s S.inv m.leaves la)
        (left_over s S.inv m.leaves la) (next_stands S m).meshed (next_stands S m).coded c))

  -- with a vertex that can leave the run goes on
  pub follow : (k i : ℕ) (R D P : List ℕ) (t : Peeling) → Standing n ts s len i R D P t → n ≡ i + 2 + k → Followed n ts s len k i R D P t (remove_all n k i t)
  unfolding iterate
  follow zero i R D P t S c =
      let r = run n ts s len zero R D P S.inv S.distinct S.below (omega (arith, S.many)) in
      absurd (omega (arith, two s S.inv, length-map D o, ap (λ (p : State). length p.frontier) r.ends))
  follow (suc k) i R D P t S c =
      let m = turn S (omega arith) in
      elim (ℕ_discrete (next m.e) (op 2)) [
        | no ne ↦ onward S k m (follow k (suc i) (o m.e ∷ R) m.after (P ++ m.fan) (t₂ S m) (next_standing S m ne) (omega arith))
        | yes la ↦
            let l = two-left (o m.e ∷ R) (left_over s S.inv m.leaves la) in
            finish S k m la (omega (arith, l, S.many)) (omega (arith, l, S.many))
      ]
