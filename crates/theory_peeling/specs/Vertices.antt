-- The definition's frontier, a list of vertices, against the frontier of darts: neighbours, the exchange of a vertex for its fan, and one step of the
-- peeling. Assumes nothing.
use Prim.Native.Nat.{ℕ, zero, suc, ◌*◌, ◌/◌, ◌≤◌, ◌<◌}
use Rattle.std.specs.Prelude.{◌≡◌, ◌≢◌, ◌⊎◌, Bool, true, ◌&&◌, ◌||◌, length}
use Rattle.std.proofs.Math.Path.{refl, sym, ap, ap₂}
use Rattle.std.proofs.Common.{◌∙◌, arith}
use Rattle.std.proofs.Math.Logic.{inl, inr}
use Rattle.std.proofs.Math.Bool.{not}
use mathlib.Core.List.Memᴰ
use mathlib.Core.List.{List, [], ◌∷◌, ◌++◌, map}
use Rattle.std.proofs.Math.Dec.{eqb}
use Rattle.std.proofs.Math.ListN.{length-map}
use borrow.Author.Tests.{eqb-true, eqb-false, eq-eqb, ne_eqb, not-true}
use Rattle.definitions.specs.Lists.{all, filter, elem, init}
use Rattle.definitions.specs.Mesh.{next, prev, org, tip, opp, rot, rotations, outgoing}
use Rattle.definitions.specs.Labels.{Peeling, before, after, replace, outer, frontier_neighbours, removable, dart_to, fan, remove}
use Rattle.laws.specs.Lists.{◌∈◌, and_both, or_either, or_left, or_right, all_true, true-all, filter_in, in_filter, elem-true, true-elem, elem-false}
use Rattle.laws.specs.Lists.{false-elem, first_or_only, init_snoc}
use Rattle.laws.specs.Counting.{Distinct, nil, cons, distinct_within, distinct_full, distinct_filter}
use Rattle.laws.specs.Mapped.{map_append, filter_map}
use Rattle.laws.specs.Edges.{dist_same}
use Rattle.theory_sphere.specs.Rows.{outgoing_in, in_outgoing, distinct_outgoing}
use Rattle.theory_sphere.specs.Sphere.{Sphere}
use Rattle.theory_sphere.specs.Darts.{next-below, next-next}
use Rattle.theory_sphere.specs.Rotations.{tip-opp, tip-rot}
use Rattle.theory_realizer.specs.Trace.{Fan, end, more, edge}
use Rattle.theory_peeling.specs.Inside.{inside?, Path, path-end, Inv, Chordless, org_opp2, tip_opp2}
use Rattle.theory_peeling.specs.RotationLists.{rotations_by}
use Rattle.theory_peeling.specs.Fan.{gs, D', D'_is, gs_fan, round, to_e, e_in, e'_in, a_not_e, left-path, meet, eb, eb'}

-- ---- neighbours on a frontier, and the exchange

module _ (o : ℕ → ℕ) (e e' : ℕ) (B : List ℕ) where
  pub before_at : (z : ℕ) (A : List ℕ) (a : ℕ) → Path o (o z) A a → ((x : ℕ) → x ∈ A → o x ≢ o e) →
      before (o e) (map o (z ∷ A ++ e ∷ e' ∷ B)) ≡ a
  unfolding before
  before_at z [] a p n = rw (eq-eqb (o e) (o e) refl) p
  before_at z (x ∷ A) a p n = rw (ne_eqb (o x) (o e) (n x (Memᴰ.head refl))) (before_at x A a p.1 (λ y m. n y (Memᴰ.tail m)))

  pub after-at : (z : ℕ) (A : List ℕ) → ((x : ℕ) → x ∈ z ∷ A → o x ≢ o e) → after (o e) (map o (z ∷ A ++ e ∷ e' ∷ B)) ≡ o e'
  unfolding after
  after-at z [] n = rw (ne_eqb (o z) (o e) (n z (Memᴰ.head refl)), eq-eqb (o e) (o e) refl)
  after-at z (x ∷ A) n = rw (ne_eqb (o z) (o e) (n z (Memᴰ.head refl))) (after-at x A (λ y m. n y (Memᴰ.tail m)))

  pub replace-at : (z : ℕ) (A us : List ℕ) (a : ℕ) → Path o (o z) A a → ((x : ℕ) → x ∈ A → o x ≢ o e)
      → replace (o e) (a ∷ us) (map o (z ∷ A ++ e ∷ e' ∷ B)) ≡ o z ∷ (map o A ++ (us ++ map o B))
  unfolding replace
  replace-at z [] us a p n = rw (eq-eqb (o e) (o e) refl, p)
  replace-at z (x ∷ []) us a p n =
      rw (ne_eqb (o x) (o e) (n x (Memᴰ.head refl)))
      (ap (λ (r : List ℕ). o z ∷ r) (replace-at x [] us a p.1 (λ y m. n y (Memᴰ.tail m))))
  replace-at z (x ∷ y ∷ A) us a p n =
      rw (ne_eqb (o x) (o e) (n x (Memᴰ.head refl)))
      (ap (λ (r : List ℕ). o z ∷ r) (replace-at x (y ∷ A) us a p.1 (λ y m. n y (Memᴰ.tail m))))

-- ---- the words of the definition

module _ (ts : List ℕ) where
  pub rotations-rotations_by : (k d : ℕ) → rotations ts k d ≡ rotations_by (opp ts) k d
  unfolding rotations rotations_by rot
  rotations-rotations_by zero d = refl
  rotations-rotations_by (suc k) d = ap (λ (r : List ℕ). d ∷ r) (rotations-rotations_by k (opp ts (prev d)))

  tip_is : (d : ℕ) → tip ts d ≡ org ts (next d)
  unfolding tip
  tip_is d = refl

  -- v0 and v1 are never removed
  pub removable-inner : (p : Peeling) (w : ℕ) → removable ts p w ≡ true → (w ≢ outer ts 0) × (w ≢ outer ts 1)
  unfolding removable
  removable-inner p w t =
      let n0 = not (eqb w (outer ts 0)) in
      let n1 = not (eqb w (outer ts 1)) in
      let two = eqb (length (frontier_neighbours ts p w)) 2 in
      let a = (and_both (n0 && n1 && two) (all (λ u. eqb u (before w p.frontier) || eqb u (after w p.frontier)) (frontier_neighbours ts p w)) t).0 in
      let b = and_both n0 n1 (and_both (n0 && n1) two a).0 in
      (eqb-false w (outer ts 0) (not-true (eqb w (outer ts 0)) b.0), eqb-false w (outer ts 1) (not-true (eqb w (outer ts 1)) b.1))

  -- v0, v1 and v2
  pub outer0 : outer ts 0 ≡ org ts 0
  unfolding outer
  outer0 = refl

  pub outer1 : outer ts 1 ≡ org ts 2
  unfolding outer
  outer1 = refl

  pub outer2 : outer ts 2 ≡ org ts 1
  unfolding outer
  outer2 = refl

-- the peeling that has removed R, with the frontier's darts D, and has passed P
abbrev pub state : List ℕ → List ℕ → List ℕ → List ℕ → Peeling
state ts R D P = record { frontier = map (org ts) (opp ts 2 ∷ D); removed = R; passed = P }

module _ (n : ℕ) (ts : List ℕ) (s : Sphere n (length ts / 3) (org ts) (opp ts)) (len : 3 * (length ts / 3) ≡ length ts) where
  abbrev T : ℕ
  T = length ts / 3

  abbrev o : ℕ → ℕ
  o = org ts

  abbrev op : ℕ → ℕ
  op = opp ts

  -- v0 and v1 are the two ends of the closing dart
  pub v0 : o (op 2) ≡ outer ts 0
  v0 = org_opp2 s ∙ sym (outer0 ts)

  pub v1 : o (next (op 2)) ≡ outer ts 1
  v1 = tip_opp2 s ∙ sym (outer1 ts)

  short : (d : ℕ) → d < 3 * T → d < length ts
  short d h = omega arith

  long : (d : ℕ) → d < length ts → d < 3 * T
  long d h = omega arith

  module _ (R P A : List ℕ) (e e' : ℕ) (B : List ℕ) (v : Inv n T o op R (A ++ e ∷ e' ∷ B)) where
    abbrev p : Peeling
    p = state ts R (A ++ e ∷ e' ∷ B) P

    abbrev C : List ℕ
    C = op 2 ∷ A ++ e ∷ e' ∷ B

    left : Path o (o (op 2)) A (o (next e))
    left = left-path s R A e e' B v

    met : o (next e') ≡ o e
    met = meet s R A e e' B v

    e∈ : e ∈ C
    e∈ = e_in s R A e e' B v

    e'∈ : e' ∈ C
    e'∈ = e'_in s R A e e' B v

    e< : e < 3 * T
    e< = eb s R A e e' B v

    e'< : e' < 3 * T
    e'< = eb' s R A e e' B v

    not_e : (x : ℕ) → x ∈ op 2 ∷ A → o x ≢ o e
    not_e = a_not_e s R A e e' B v

    before_is : before (o e) p.frontier ≡ o (next e)
    before_is = before_at o e e' B (op 2) A (o (next e)) left (λ x m. not_e x (Memᴰ.tail m))

    after_is : after (o e) p.frontier ≡ o e'
    after_is = after-at o e e' B (op 2) A not_e

    -- a dart to the left or the right neighbour
    same_left : (d : ℕ) → d < 3 * T → o d ≡ o e → o (next d) ≡ o (next e) → d ≡ e
    same_left d b = s.once d e b e<

    same_right : (d : ℕ) → d < 3 * T → o d ≡ o e → o (next d) ≡ o e' → d ≡ op e'
    same_right d b a t = s.once d (op e') b (s.dart e' e'<) (a ∙ sym (s.reverses e' e'< ∙ met)) (t ∙ sym (tip-opp s e' e'<))

    abbrev there? : ℕ → Bool
    there? u = not (elem u R) && elem u p.frontier

    there-true : (u : ℕ) → (u ∈ R → ⊥) → u ∈ p.frontier → there? u ≡ true
    there-true u a m = rw (false-elem u R a, true-elem m)

    true-there : (u : ℕ) → there? u ≡ true → (u ∈ R → ⊥) × (u ∈ p.frontier)
    true-there u t = let r = and_both (not (elem u R)) (elem u p.frontier) t in (elem-false (not-true (elem u R) r.0), elem-true u p.frontier r.1)

    -- the darts to the remaining neighbours on the frontier
    abbrev K : List ℕ
    K = filter (λ d. there? (tip ts d)) (outgoing ts (o e))

    neighbours_is : frontier_neighbours ts p (o e) ≡ map (tip ts) K
    unfolding frontier_neighbours
    neighbours_is = filter_map (tip ts) there? (outgoing ts (o e))

    in_K : (d : ℕ) → d < 3 * T → o d ≡ o e → (o (next d) ∈ R → ⊥) → o (next d) ∈ p.frontier → d ∈ K
    unfolding tip
    in_K d b t a m = in_filter (λ d. there? (tip ts d)) (in_outgoing ts (o e) d (short d b) t) (there-true (o (next d)) a m)

    K_in : (d : ℕ) → d ∈ K → (d < 3 * T) × (o d ≡ o e) × (o (next d) ∈ R → ⊥) × (o (next d) ∈ p.frontier)
    unfolding tip
    K_in d m =
        let r = filter_in (λ d. there? (tip ts d)) (outgoing ts (o e)) m in
        let l = outgoing_in ts (o e) r.0 in
        let t = true-there (o (next d)) r.1 in
        (long d l.0, l.1, t.0, t.1)

    e_K : e ∈ K
    e_K = in_K e e< refl (v.this e e∈).to (elim (path-end o (o (op 2)) A (o (next e)) left) [
      | inl t ↦ Memᴰ.head t
      | inr r ↦ Memᴰ.cast (sym r.2) (Memᴰ.map o {l = C} (Memᴰ.tail (Memᴰ.append_left (e ∷ e' ∷ B) r.1)))
    ])

    q_K : op e' ∈ K
    q_K =
        let t = tip-opp s e' e'< in
        in_K (op e') (s.dart e' e'<) (s.reverses e' e'< ∙ met) (λ m. (v.this e' e'∈).from (Memᴰ.cast (sym t) m))
        (Memᴰ.cast t (Memᴰ.map o e'∈))

    e_not_q : e ≢ op e'
    e_not_q t = v.that e' e'∈ (rw t at (v.this e e∈))

    -- where the vertex is lonely these are the darts to its two neighbours
    K_cases : Chordless T o op R (A ++ e ∷ e' ∷ B) (o e) → (d : ℕ) → d ∈ K → (d ≡ e) ⊎ (d ≡ op e')
    K_cases lo d m = go (K_in d m)
      where
        go : (d < 3 * T) × (o d ≡ o e) × (o (next d) ∈ R → ⊥) × (o (next d) ∈ p.frontier) → (d ≡ e) ⊎ (d ≡ op e')
        go r =
            let b = r.0 in
            let x = Memᴰ.of_map o C r.3 in
            elim (inside? T o R d) [
              | yes i ↦ elim (inside? T o R (op d)) [
                | yes j ↦ absurd (lo d i j r.1 x.0 x.1 (sym x.2))
                | no j ↦ inl (dist_same o C v.apart d e (v.only d i j) e∈ r.1)
              ]
              | no i ↦ elim (v.side d b (λ k. (v.this e e∈).from (Memᴰ.cast (sym r.1) k)) r.2) [
                | inl j ↦ absurd (i j)
                | inr j ↦
                    let k = v.only (op d) j (λ a. i (rw (s.twice d b) at a)) in
                    inr (sym (s.twice d b) ∙ ap op (to_e s R A e e' B v (op d) k (tip-opp s d b ∙ r.1)))
              ]
            ]

    pair_distinct : Distinct (e ∷ op e' ∷ [])
    pair_distinct = cons {x = e} (λ m. e_not_q (Memᴰ.eq_of_singleton m)) (cons {x = op e'} Memᴰ.not-nil nil)

    pair_in : (d : ℕ) → d ∈ e ∷ op e' ∷ [] → d ∈ K
    pair_in d m = elim (Memᴰ.cases_cons m) [ inl t ↦ Memᴰ.cast t e_K | inr k ↦ Memᴰ.cast (Memᴰ.eq_of_singleton k) q_K ]

    K_length : Chordless T o op R (A ++ e ∷ e' ∷ B) (o e) → length K ≡ 2
    K_length lo =
        let up = distinct_within (distinct_filter (λ d. there? (tip ts d)) (distinct_outgoing ts (o e))) (e ∷ op e' ∷ []) (λ d m.
        elim (K_cases lo d m) [ inl t ↦ Memᴰ.head t | inr t ↦ Memᴰ.tail (Memᴰ.head t) ]) in
        let down = distinct_within pair_distinct K pair_in in
        omega (arith, up, down)

    abbrev beside? : ℕ → Bool
    beside? u = eqb u (before (o e) p.frontier) || eqb u (after (o e) p.frontier)

    -- a lonely vertex other than v0 and v1 can be removed
    pub chordless_removable : Chordless T o op R (A ++ e ∷ e' ∷ B) (o e) → o e ≢ outer ts 0 → o e ≢ outer ts 1 → removable ts p (o e) ≡ true
    unfolding removable
    chordless_removable lo n0 n1 =
        rw (ne_eqb (o e) (outer ts 0) n0, ne_eqb (o e) (outer ts 1) n1, neighbours_is, length-map K (tip ts), eq-eqb (length K) 2 (K_length lo))
        (true-all beside? (map (tip ts) K) (λ u m.
        let r = Memᴰ.of_map (tip ts) K m in
        elim (K_cases lo r.0 r.1) [
          | inl t ↦ or_left (eqb u (before (o e) p.frontier)) (eqb u (after (o e) p.frontier))
              (eq-eqb u (before (o e) p.frontier) (sym r.2 ∙ tip_is ts r.0 ∙ ap (λ (x : ℕ). o (next x)) t ∙ sym before_is))
          | inr t ↦ or_right (eqb u (before (o e) p.frontier)) (eqb u (after (o e) p.frontier))
              (eq-eqb u (after (o e) p.frontier) (sym r.2 ∙ tip_is ts r.0 ∙ ap (λ (x : ℕ). o (next x)) t ∙ tip-opp s e' e'<
              ∙ sym after_is))
        ]))

    -- So is one that has two remaining neighbours on the frontier: they are those beside it.
    pub two-removable : length (frontier_neighbours ts p (o e)) ≡ 2 → o e ≢ outer ts 0 → o e ≢ outer ts 1 → removable ts p (o e) ≡ true
    two-removable c n0 n1 = chordless_removable lo n0 n1
      where
        only_two : (d : ℕ) → d ∈ K → (d ≡ e) ⊎ (d ≡ op e')
        only_two d m =
            let k : length K ≤ 2 = omega (arith, c, ap length neighbours_is, length-map K (tip ts)) in
            let r = distinct_full pair_distinct K pair_in k d m in
            elim (Memᴰ.cases_cons r) [ inl t ↦ inl t | inr q ↦ inr (Memᴰ.eq_of_singleton q) ]

        lo : Chordless T o op R (A ++ e ∷ e' ∷ B) (o e)
        lo d i j a x m t =
            elim (only_two d (in_K d i.below a i.to (Memᴰ.cast t (Memᴰ.map o m)))) [
              | inl u ↦ v.that e e∈ (rw u at j)
              | inr u ↦ v.that e' e'∈ (rw u at i)
            ]

    -- and a vertex that can be removed is lonely
    pub removable_chordless : removable ts p (o e) ≡ true → Chordless T o op R (A ++ e ∷ e' ∷ B) (o e)
    unfolding removable
    removable_chordless t d i j a x m c =
        let b = i.below in
        let h = (and_both (not (eqb (o e) (outer ts 0)) && not (eqb (o e) (outer ts 1)) && eqb (length (frontier_neighbours ts p (o e))) 2)
        (all beside? (frontier_neighbours ts p (o e))) t).1 in
        let k : o (next d) ∈ frontier_neighbours ts p (o e) =
        rw neighbours_is (Memᴰ.cast (sym (tip_is ts d)) (Memᴰ.map (tip ts) (in_K d b a i.to (Memᴰ.cast c (Memᴰ.map o m))))) in
        elim (or_either (eqb (o (next d)) (before (o e) p.frontier)) (eqb (o (next d)) (after (o e) p.frontier))
        (all_true beside? (frontier_neighbours ts p (o e)) h k)) [
          | inl u ↦ v.that e e∈ (rw (same_left d b a (eqb-true (o (next d)) (before (o e) p.frontier) u ∙ before_is)) at j)
          | inr u ↦ v.that e' e'∈ (rw (same_right d b a (eqb-true (o (next d)) (after (o e) p.frontier) u ∙ after_is)) at i)
        ]

    -- ---- the vertex leaves

    side_is : dart_to ts (o e) (before (o e) p.frontier) ≡ e
    unfolding dart_to
    side_is = rw before_is (first_or_only (λ d. eqb (tip ts d) (o (next e))) (length ts) e (in_outgoing ts (o e) e (short e e<) refl)
        (eq-eqb (tip ts e) (o (next e)) (tip_is ts e)) (λ y m t.
        let r = outgoing_in ts (o e) m in
        same_left y (long y r.0) r.1 (sym (tip_is ts y) ∙ eqb-true (tip ts y) (o (next e)) t)))

    module _ (lo : Chordless T o op R (A ++ e ∷ e' ∷ B) (o e)) where
      abbrev hs : List ℕ
      hs = gs s R A e e' B v

      fan_is : fan ts p (o e) ≡ hs ++ (op e' ∷ [])
      unfolding fan
      fan_is =
          rw (side_is, rotations-rotations_by ts (length (outgoing ts (o e))) e)
          (round s R A e e' B v (outgoing ts (o e)) (distinct_outgoing ts (o e)) (λ x m. let r = outgoing_in ts (o e) m in
          (long x r.0, r.1)) (λ x b t. in_outgoing ts (o e) x (short x b) t)
          (λ d. not (elem (tip ts d) R)) (λ d a. rw (tip_is ts d, false-elem (o (next d)) R a)) (λ d m. rw (tip_is ts d, true-elem m)))

      tips_are : {d : ℕ} {ds : List ℕ} → Fan T o op (op e') d ds → map (tip ts) (ds ++ (op e' ∷ [])) ≡ o (next d)
          ∷ map o (map (edge T o op) ds)
      unfolding edge tip
      tips_are {d} (end b t) =
          ap (λ (x : ℕ). o (next d) ∷ x ∷ []) (ap (λ (x : ℕ). o (next x)) (sym t) ∙ tip-rot s d b ∙ ap o (sym (next-next d))
          ∙ sym (s.reverses (next d) (next-below T d b)))
      tips_are {d} (more {gs = ds} b f) =
          ap (λ (r : List ℕ). o (next d) ∷ r) (tips_are f
          ∙ ap (λ (x : ℕ). x ∷ map o (map (edge T o op) ds)) (tip-rot s d b ∙ ap o (sym (next-next d))
          ∙ sym (s.reverses (next d) (next-below T d b))))

      frontier_is : replace (o e) (map (tip ts) (fan ts p (o e))) p.frontier ≡ map o (op 2 ∷ D' s R A e e' B v)
      frontier_is =
          rw (D'_is s R A e e' B v, fan_is, tips_are (gs_fan s R A e e' B v))
          (replace-at o e e' B (op 2) A (map o (map (edge T o op) hs)) (o (next e)) left (λ x m. not_e x (Memᴰ.tail m))
          ∙ ap (λ (r : List ℕ). o (op 2) ∷ (map o A ++ r)) (sym (map_append o (map (edge T o op) hs) B))
          ∙ ap (λ (r : List ℕ). o (op 2) ∷ r) (sym (map_append o A (map (edge T o op) hs ++ B))))

      -- what removing it gives
      pub remove_is : remove ts p (o e) ≡ state ts (o e ∷ R) (D' s R A e e' B v) (P ++ hs)
      unfolding remove
      remove_is =
          ap₂ (λ (x y : List ℕ). record { frontier = x; removed = o e ∷ R; passed = P ++ y }) frontier_is (ap init fan_is ∙ init_snoc hs (op e'))
