-- The peeling of the definition, from any of its states on: it never gets stuck, and it ends with v0 and v1 on the frontier. Assumes nothing.
use Prim.Native.Nat.{ℕ, zero, suc, ◌+◌, ◌*◌, ◌/◌, ◌≤◌, ◌<◌}
use Rattle.std.specs.Prelude.{◌≡◌, ◌≢◌, ◌⊎◌, length}
use Rattle.std.proofs.Math.Path.{refl, ap}
use Rattle.std.proofs.Common.{sym, subst, ◌∙◌, arith, length-append}
use Rattle.std.proofs.Math.Logic.{inl, inr}
use Rattle.std.proofs.Math.Bool.{true}
use Rattle.std.proofs.Math.Option.{Option, none, some}
use mathlib.Core.List.Memᴰ
use mathlib.Core.List.{List, [], ◌∷◌, ◌++◌, map, append_assoc, append-nil}
use Rattle.std.proofs.Math.Decide.{ℕ_discrete}
use Rattle.std.proofs.lemmas.List.{length-map}
use Rattle.definitions.specs.Lists.{filter, iterate, upto}
use Rattle.definitions.specs.Mesh.{next, org, opp}
use Rattle.definitions.specs.Labels.{Peeling, removable, next_removable, remove, step}
use Rattle.laws.specs.Lists.{◌∈◌, filter_in, in_filter, in_upto, upto_in, length-upto, dec_in, minimum-none, minimum_some, in_split}
use Rattle.laws.specs.Counting.{Distinct, cons, distinct_within, distinct_upto, distinct_append}
use Rattle.laws.specs.Edges.{dist_distinct}
use Rattle.theory_sphere.specs.Sphere.{Sphere}
use Rattle.theory_peeling.specs.Inside.{Inside, Path, path_split, Inv, Chordless, chordless, two}
use Rattle.theory_peeling.specs.Fan.{Leaves, gs, D', leaves}
use Rattle.theory_peeling.specs.RemoveStep.{goes_on, empty, left_over}
use Rattle.theory_peeling.specs.Peel.{Peel, over, passes, final}
use Rattle.theory_peeling.specs.Vertices.{state, removable-inner, chordless_removable, removable_chordless, remove_is, v0, v1}

-- a step removes the vertex that is chosen, and changes nothing where there is none
step_is : (ts : List ℕ) (q : Peeling) (w : ℕ) → next_removable ts q ≡ some w → step ts q ≡ remove ts q w
unfolding step
step_is ts q w t = rw (t, step)

pub step-none : (ts : List ℕ) (q : Peeling) → next_removable ts q ≡ none → step ts q ≡ q
unfolding step
step-none ts q t = rw (t, step)

module _ (n : ℕ) (ts : List ℕ) (s : Sphere n (length ts / 3) (org ts) (opp ts)) (len : 3 * (length ts / 3) ≡ length ts) where
  abbrev T : ℕ
  T = length ts / 3

  abbrev o : ℕ → ℕ
  o = org ts

  abbrev op : ℕ → ℕ
  op = opp ts

  -- a frontier dart from a vertex other than v1 has one after it
  split : (D : List ℕ) → Path o (o (op 2)) D (o (next (op 2))) → (x : ℕ) → x ∈ D → o x ≢ o (next (op 2)) → (A : List ℕ) × (e' : ℕ)
      × (B : List ℕ) × (D ≡ A ++ x ∷ e' ∷ B)
  split D p x m ne = let r = in_split m in go r.0 r.1 r.2
    where
      go : (A B : List ℕ) → D ≡ A ++ x ∷ B → (A : List ℕ) × (e' : ℕ) × (B : List ℕ) × (D ≡ A ++ x ∷ e' ∷ B)
      go A [] t = absurd (ne (path_split o (o (op 2)) A (x ∷ []) (o (next (op 2))) (rw t at p)).2.1)
      go A (y ∷ B) t = (A, y, B, t)

  -- the definition's choice: a lonely vertex between v0 and v1
  record Choice (R D P : List ℕ) : Type 0 where
    A : List ℕ
    e : ℕ
    e' : ℕ
    B : List ℕ
    parts : D ≡ A ++ e ∷ e' ∷ B
    alone : Chordless T o op R D (o e)
    chosen : next_removable ts (state ts R D P) ≡ some (o e)

  -- some vertex can be removed
  ready : (R D P : List ℕ) → Inv n T o op R D → (w : ℕ) × (w ∈ map o (op 2 ∷ D)) × (removable ts (state ts R D P) w ≡ true)
  ready R D P v =
      let r = chordless s v in
      let c = split D v.path r.0 r.1 r.2 in
      let f : (X : List ℕ) → X ≡ c.0 ++ r.0 ∷ c.1 ∷ c.2 → Inv n T o op R X → Chordless T o op R X (o r.0) →
      removable ts (state ts R X P) (o r.0) ≡ true =
      λ X t u l. rw t (chordless_removable n ts s len R P c.0 r.0 c.1 c.2 (rw t at u) (rw t at l)
      (λ q. v.apart.0 r.0 r.1 (v0 n ts s len ∙ sym q)) (λ q. r.2 (q ∙ sym (v1 n ts s len)))) in
      (o r.0, Memᴰ.map o {l = op 2 ∷ D} (Memᴰ.tail r.1), f D c.3 v r.3)

  choose : (R D P : List ℕ) → Inv n T o op R D → Choice R D P
  unfolding next_removable
  choose R D P v = go (next_removable ts (state ts R D P)) refl
    where
      found : (w : ℕ) → next_removable ts (state ts R D P) ≡ some w → w ∈ map o (op 2 ∷ D) → removable ts (state ts R D P) w ≡ true →
          Choice R D P
      found w c m t =
          let x = Memᴰ.of_map o (op 2 ∷ D) m in
          let i = removable-inner ts (state ts R D P) w t in
          elim (Memᴰ.cases_cons x.1) [
            | inl u ↦ absurd (i.0 (sym x.2 ∙ ap o u ∙ v0 n ts s len))
            | inr k ↦
                let c' = split D v.path x.0 k (λ u. i.1 (sym x.2 ∙ u ∙ v1 n ts s len)) in
                let f : (X : List ℕ) → X ≡ c'.0 ++ x.0 ∷ c'.1 ∷ c'.2 → Inv n T o op R X → removable ts (state ts R X P) (o x.0)
                ≡ true → Chordless T o op R X (o x.0) =
                λ X q u h. rw q (removable_chordless n ts s len R P c'.0 x.0 c'.1 c'.2 (rw q at u) (rw q at h)) in
                record {
                  A = c'.0;
                  e = x.0;
                  e' = c'.1;
                  B = c'.2;
                  parts = c'.3;
                  alone = f D c'.3 v (subst (λ (y : ℕ). removable ts (state ts R D P) y ≡ true) (sym x.2) t);
                  chosen = c ∙ ap {B = Option ℕ} some (sym x.2);
                }
          ]

      go : (r : Option ℕ) → next_removable ts (state ts R D P) ≡ r → Choice R D P
      go none t =
          let r = ready R D P v in
          absurd (Memᴰ.not-nil (rw (minimum-none (filter (removable ts (state ts R D P)) (map o (op 2 ∷ D))) t)
          at (in_filter (removable ts (state ts R D P)) r.1 r.2)))
      go (some w) t =
          let m = filter_in (removable ts (state ts R D P)) (map o (op 2 ∷ D))
          (minimum_some (filter (removable ts (state ts R D P)) (map o (op 2 ∷ D))) w t).0 in
          found w t m.0 m.1

  -- ---- the run

  -- a state of the peeling, with the frontier's darts, its invariant and the number of vertices removed
  pub record At (c : ℕ) (p : Peeling) : Type 0 where
    pub R : List ℕ
    pub D : List ℕ
    pub P : List ℕ
    pub is : p ≡ state ts R D P
    pub inv : Inv n T o op R D
    pub count : length R ≡ c
    pub distinct : Distinct R
    pub below : (w : ℕ) → w ∈ R → w < n

  -- From this state on k steps are made, a vertex leaving at each, and v0 and v1 are left.
  pub record Ran (k : ℕ) (R D P : List ℕ) : Type 0 where
    pub peel : Peel n T o op R D
    pub ends : iterate (step ts) k (state ts R D P) ≡ state ts (final peel) (2 ∷ []) (P ++ passes peel)
    pub moves : (j : ℕ) → j < k → (w : ℕ) × (next_removable ts (iterate (step ts) j (state ts R D P)) ≡ some w)
    pub states : (j : ℕ) → j < k → At (length R + j) (iterate (step ts) j (state ts R D P))

  -- with three vertices on the frontier, three are not removed
  three-left : (R D : List ℕ) → Inv n T o op R D → Distinct R → ((w : ℕ) → w ∈ R → w < n) → length R + 3 ≤ n
  three-left R D v d b =
      let c = distinct_within (distinct_append d (dist_distinct o (op 2 ∷ D) v.apart) (λ w m k. let r = Memᴰ.of_map o (op 2 ∷ D) k in
      (v.this r.0 r.1).from (Memᴰ.cast r.2 m)))
      (upto n) (λ w m. in_upto n w (elim (Memᴰ.append_cases R m) [
        | inl k ↦ b w k
        | inr k ↦ let r = Memᴰ.of_map o (op 2 ∷ D) k in rw (sym r.2) (s.vertex r.0 (v.this r.0 r.1).below)
      ])) in
      omega (arith, c, length-append R (map o (op 2 ∷ D)), length-map D o, length-upto n, two s v)

  -- and in the end at most two
  two-left : (R : List ℕ) → ((w : ℕ) → w < n → (w ∈ R → ⊥) → (w ≡ o (op 2)) ⊎ (w ≡ o (next (op 2)))) → n ≤ length R + 2
  two-left R h =
      let c = distinct_within (distinct_upto n) (o (op 2) ∷ o (next (op 2)) ∷ R) (λ w m. elim (dec_in w R) [
        | yes k ↦ Memᴰ.tail (Memᴰ.tail k)
        | no a ↦ elim (h w (upto_in n m) a) [ inl t ↦ Memᴰ.head t | inr t ↦ Memᴰ.tail (Memᴰ.head t) ]
      ]) in
      omega (arith, c, length-upto n)

  -- no further step
  ended : (R X P : List ℕ) → X ≡ 2 ∷ [] → ((d : ℕ) → Inside T o R d → ⊥) →
      ((w : ℕ) → w < n → (w ∈ R → ⊥) → (w ≡ o (op 2)) ⊎ (w ≡ o (next (op 2)))) → Ran 0 R X P
  unfolding iterate passes final
  ended R X P t a b =
      rw t (record {
        peel = over a b;
        ends = ap (λ (x : List ℕ). state ts R (2 ∷ []) x) (sym (append-nil P));
        moves = λ j h. absurd (omega arith);
        states = λ j h. absurd (omega arith);
      })

  module _ (k : ℕ) (R P A : List ℕ) (e e' : ℕ) (B : List ℕ) (v : Inv n T o op R (A ++ e ∷ e' ∷ B))
      (lo : Chordless T o op R (A ++ e ∷ e' ∷ B) (o e))
      (ch : next_removable ts (state ts R (A ++ e ∷ e' ∷ B) P) ≡ some (o e)) where
    abbrev D : List ℕ
    D = A ++ e ∷ e' ∷ B

    abbrev hs : List ℕ
    hs = gs s R A e e' B v

    abbrev E : List ℕ
    E = D' s R A e e' B v

    lv : Leaves T o op R D e e' hs E
    lv = leaves s R A e e' B v lo

    stepped : step ts (state ts R D P) ≡ state ts (o e ∷ R) E (P ++ hs)
    stepped = step_is ts (state ts R D P) (o e) ch ∙ remove_is n ts s len R P A e e' B v lo

    e_free : o e ∈ R → ⊥
    e_free = (v.this e (Memᴰ.tail (Memᴰ.append_right A (Memᴰ.head refl)))).from

    e_below : o e < n
    e_below = s.vertex e (v.this e (Memᴰ.tail (Memᴰ.append_right A (Memᴰ.head refl)))).below

    -- one step, and what follows it
    onward : Distinct R → ((w : ℕ) → w ∈ R → w < n) → Ran k (o e ∷ R) E (P ++ hs) → Ran (suc k) R D P
    unfolding iterate passes final
    onward d b r =
        record {
          peel = Peel.step e e' hs v lv r.peel;
          ends = rw stepped (r.ends ∙ ap (λ (x : List ℕ). state ts (final r.peel) (2 ∷ []) x) (append_assoc P hs (passes r.peel)));
          moves = go;
          states = at;
        }
      where
        go : (j : ℕ) → j < suc k → (w : ℕ) × (next_removable ts (iterate (step ts) j (state ts R D P)) ≡ some w)
        go zero h = (o e, ch)
        go (suc j) h = rw stepped (r.moves j (omega arith))

        at : (j : ℕ) → j < suc k → At (length R + j) (iterate (step ts) j (state ts R D P))
        at zero h = record { R = R; D = D; P = P; is = refl; inv = v; count = omega arith; distinct = d; below = b }
        at (suc j) h = let c : length R + suc j ≡ length (o e ∷ R) + j = omega arith in rw (c, stepped) (r.states j (omega arith))

    -- with or without a further step
    step-on : Distinct R → ((w : ℕ) → w ∈ R → w < n) → n ≡ length R + 2 + suc k
        → (Inv n T o op (o e ∷ R) E → Distinct (o e ∷ R) → ((w : ℕ) → w ∈ o e ∷ R → w < n) → n ≡ length (o e ∷ R) + 2 + k →
        Ran k (o e ∷ R) E (P ++ hs)) → Ran (suc k) R D P
    step-on d b c more =
        elim (ℕ_discrete (next e) (op 2)) [
          | no ne ↦
              onward d b (more (goes_on s v lv ne) (cons {x = o e} e_free d)
              (λ w m. elim (Memᴰ.cases_cons m) [ inl t ↦ rw t e_below | inr h ↦ b w h ]) (omega arith))
          | yes la ↦
              let l = left_over s v lv la in
              let z : k ≡ 0 = omega (arith, two-left (o e ∷ R) l) in
              onward d b (rw z (ended (o e ∷ R) E (P ++ hs) (lv.ends la) (empty s v lv la) l))
        ]

  pub run : (k : ℕ) (R D P : List ℕ) → Inv n T o op R D → Distinct R → ((w : ℕ) → w ∈ R → w < n) → n ≡ length R + 2 + k → Ran k R D P
  run zero R D P v d b c = absurd (omega (arith, three-left R D v d b))
  run (suc k) R D P v d b c =
      let h = choose R D P v in
      at h.A h.e h.e' h.B D h.parts v h.alone h.chosen (λ X Q u x y z. run k (o h.e ∷ R) X Q u x y z)
    where
      at : (A : List ℕ) (e e' : ℕ) (B X : List ℕ) → X ≡ A ++ e ∷ e' ∷ B → Inv n T o op R X → Chordless T o op R X (o e) →
          next_removable ts (state ts R X P) ≡ some (o e)
          → ((X Q : List ℕ) → Inv n T o op (o e ∷ R) X → Distinct (o e ∷ R) → ((w : ℕ) → w ∈ o e ∷ R → w < n) →
          n ≡ length (o e ∷ R) + 2 + k → Ran k (o e ∷ R) X Q) → Ran (suc k) R X P
      at A e e' B X t u l h more =
          let w = rw t at u in
          let j = rw t at l in
          rw t (step-on k R P A e e' B w j (rw t at h) d b c (more (D' s R A e e' B w) (P ++ gs s R A e e' B w)))
