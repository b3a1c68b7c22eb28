-- The tables of a stored trace, vertex by vertex: who leaves as the k-th, by which darts, and that its two neighbours on the frontier leave later or stay.
-- Assumes nothing.
use Rattle.std.specs.Prelude.{ℕ, suc, ◌+◌, ◌*◌, ◌-◌, ◌≤◌, ◌<◌, ◌≡◌, refl, ◌≢◌, Bool, true, ◌&&◌}
use Rattle.std.proofs.Math.Path.{sym, ap, subst}
use Rattle.std.proofs.Common.{◌∙◌, arith}
use Rattle.std.proofs.Math.Logic.{inl, inr}
use Rattle.std.proofs.Math.Bool.{not}
use mathlib.Core.List.Memᴰ
use mathlib.Core.List.{List, [], ◌∷◌, map}
use Rattle.std.proofs.Math.Decide.{ℕ_discrete}
use Rattle.std.proofs.Math.Dec.{eqb}
use Rattle.std.proofs.Math.ListN.{length, length-map}
use borrow.Author.Tests.{eq-eqb, ne_eqb, eqb-true, eqb-false, not-true}
use Rattle.definitions.specs.Lists.{upto, filter, first_or}
use Rattle.definitions.specs.Mesh.{next}
use Rattle.laws.specs.Lists.{◌∈◌, clash, and_both, true-any, first_or_in, filter_in, in_upto, upto_in, length-upto}
use Rattle.laws.specs.Counting.{distinct_within, distinct_filter, distinct_map, distinct_upto, distinct_full, filter-not}
use Rattle.laws.specs.Every.{Every}
use Rattle.theory_sphere.specs.Sphere.{Sphere}
use Rattle.theory_sphere.specs.Rotations.{tip-opp, tip-rot}
use Rattle.theory_realizer.specs.Trace.{Fan, end, more, edge, Trace, done, step, removed_vertices}
use Rattle.theory_realizer.specs.Realizer.{Points, Coloured, Realizer}
use Rattle.theory_realizer.specs.Edges.{edge-org, edge-tip}
use Rattle.theory_crossings.specs.Gaps.{new-darts, old_darts}
use Rattle.theory_crossings.specs.Colours.{Named, stays, org-below}
use Rattle.labels_tables.specs.Peeling.{Peeling}
use Rattle.labels_tables.specs.LabelledTables.{Stored}

-- the vertex that leaves as the k-th
abbrev pub removed_at : Peeling → ℕ → ℕ
removed_at t k = t.order k

-- its parents: where its dart to the left leads to, and where its dart from the right comes from
abbrev pub up0 : Peeling → ℕ → ℕ
up0 t k = t.origin (next (t.left (removed_at t k)))

abbrev pub up1 : Peeling → ℕ → ℕ
up1 t k = t.origin (t.right (removed_at t k))

-- a vertex that stays to the end, as v0 or v1, or leaves as the k-th or later
pub data From (n : ℕ) (v removed_at : ℕ → ℕ) (k i : ℕ) : Type 0 where
  first : i ≡ v 0 → From n v removed_at k i
  last : i ≡ v 1 → From n v removed_at k i
  removed : (j : ℕ) → k ≤ j → j < n - 2 → removed_at j ≡ i → From n v removed_at k i

-- the vertex w, which leaves as the k-th: its dart to the left, of colour 0, and its dart from the right, whose opposite has colour 1
pub record RemovedVertex (n T : ℕ) (org opp label v removed_at : ℕ → ℕ) (left right k w : ℕ) : Type 0 where
  pub colour0 : Points T org opp label v 0 left
  pub from : org left ≡ w
  pub colour1 : Points T org opp label v 1 (opp right)
  pub below : right < 3 * T
  pub to : org (next right) ≡ w
  pub later : From n v removed_at (suc k) (org (next left))
  pub later' : From n v removed_at (suc k) (org right)

module _ {T : ℕ} {org opp : ℕ → ℕ} (n : ℕ) (t : Peeling) where
  -- from step k on there are n - 2 - k vertices that leave
  stored-length : {C : List ℕ} (k : ℕ) (tr : Trace T org opp C) → Stored n T org opp t k tr → k + length (removed_vertices T org opp tr) ≡ n - 2
  unfolding removed_vertices
  stored-length k done q = omega (arith, q)
  stored-length k (step e e' gs h o f s tr) q = omega (arith, stored-length (suc k) tr q.3)

  -- each of them has its place
  stored_in : {C : List ℕ} (k : ℕ) (tr : Trace T org opp C) → Stored n T org opp t k tr → {i : ℕ} → i ∈ removed_vertices T org opp tr →
      (j : ℕ) × (j < n - 2) × (t.order j ≡ i)
  unfolding removed_vertices
  stored_in k done q m = absurd (Memᴰ.not-nil m)
  stored_in k (step e e' gs h o f s tr) q m =
      elim (Memᴰ.cases_cons m) [
        | inl i ↦ (k, omega (arith, stored-length (suc k) tr q.3), q.0 ∙ sym i)
        | inr i ↦ stored_in (suc k) tr q.3 i
      ]

module _ {n T : ℕ} {org opp label v : ℕ → ℕ} (sph : Sphere n T org opp) (R : Realizer n T org opp label v) (named : Named org v) (t : Peeling) where
  weaker : {k i : ℕ} → From n v (removed_at t) (suc k) i → From n v (removed_at t) k i
  weaker (first e) = first e
  weaker (last e) = last e
  weaker (removed j l h e) = removed j (omega arith) h e

  abbrev Ends : ℕ → ℕ → Type 0
  Ends k d = From n v (removed_at t) k (org d) × From n v (removed_at t) k (org (next d))

  weaker_all : (k : ℕ) (C : List ℕ) → Every (Ends (suc k)) C → Every (Ends k) C
  weaker_all k [] q = tt
  weaker_all k (d ∷ C) q = ((weaker q.0.0, weaker q.0.1), weaker_all k C q.1)

  -- where a fan begins and ends, from the new frontier darts across it
  fan-ends : {g' g : ℕ} {gs : List ℕ} (k : ℕ) → Fan T org opp g' g gs → Every (Ends k) (map (edge T org opp) gs) →
      From n v (removed_at t) k (org (next g)) × From n v (removed_at t) k (org (next g'))
  fan-ends {g'} k (end {g} h q) p =
      let r : org (next g') ≡ org (edge T org opp g) = sym (ap (λ (d : ℕ). org (next d)) q) ∙ tip-rot sph g h ∙ sym (edge-org sph g h) in
      (subst (From n v (removed_at t) k) (edge-tip sph g h) p.0.1, subst (From n v (removed_at t) k) (sym r) p.0.0)
  fan-ends k (more {g} h f) p = (subst (From n v (removed_at t) k) (edge-tip sph g h) p.0.1, (fan-ends k f p.1).1)

  -- the vertices of a frontier have not left yet
  ends : {C : List ℕ} (k : ℕ) (tr : Trace T org opp C) → Stored n T org opp t k tr → Every (Ends k) C
  unfolding next
  ends k done q = ((last (sym named.v1), first (sym named.v0)), tt)
  ends k (step {C' = C'} e e' gs h o f s tr) q =
      let late = ends (suc k) tr q.3 in
      let g = fan-ends (suc k) f (new-darts (Ends (suc k)) s late) in
      let here : From n v (removed_at t) k (org e) = removed k (omega arith) (omega (arith, stored-length n t (suc k) tr q.3)) q.0 in
      old_darts (Ends k) s (here, weaker g.0) (
        weaker (subst (From n v (removed_at t) (suc k)) (tip-opp sph e' h) g.1),
        subst (From n v (removed_at t) k) o here,
      )
      (weaker_all k C' late)

  -- what is stored of the j-th
  removed-at : {C : List ℕ} (k : ℕ) (tr : Trace T org opp C) → Stored n T org opp t k tr → Coloured T org opp label v tr → (j : ℕ) → k ≤ j →
      j < n - 2 →
      RemovedVertex n T org opp label v (removed_at t) (t.left (removed_at t j)) (t.right (removed_at t j)) j (removed_at t j)
  removed-at k done q c j l h = absurd (omega (arith, q))
  removed-at k (step e e' gs h o f s tr) q c j l m =
      elim (ℕ_discrete j k) [
        | no d ↦ removed-at (suc k) tr q.3 c.3 j (omega arith) m
        | yes d ↦
            let late = ends (suc k) tr q.3 in
            let g = fan-ends (suc k) f (new-darts (Ends (suc k)) s late) in
            let L : RemovedVertex n T org opp label v (removed_at t) e e' k (org e) =
            record {
              colour0 = c.0;
              from = refl;
              colour1 = c.1;
              below = h;
              to = sym o;
              later = g.0;
              later' = subst (From n v (removed_at t) (suc k)) (tip-opp sph e' h) g.1;
            } in
            rw (d, q.0, q.1, q.2) L
      ]

  module _ (stored : Stored n T org opp t 0 R.trace) where
    pub leaves_at : (j : ℕ) → j < n - 2 → RemovedVertex n T org opp label v (removed_at t) (t.left (removed_at t j)) (t.right (removed_at t j)) j
        (removed_at t j)
    leaves_at j h = removed-at 0 R.trace stored R.colours j (omega arith) h

    -- it is a vertex, and neither v0 nor v1
    pub removed-below : (j : ℕ) → j < n - 2 → removed_at t j < n
    removed-below j h = let L = leaves_at j h in subst (λ (i : ℕ). i < n) L.from (org-below sph R named L.colour0)

    pub removed_not0 : (j : ℕ) → j < n - 2 → removed_at t j ≢ v 0
    removed_not0 j h e = let L = leaves_at j h in stays sph R named 0 (omega arith) L.colour0 (L.from ∙ e)

    pub removed_not1 : (j : ℕ) → j < n - 2 → removed_at t j ≢ v 1
    removed_not1 j h e = let L = leaves_at j h in stays sph R named 1 (omega arith) L.colour1 (sph.reverses (t.right (removed_at t j)) L.below
        ∙ L.to
        ∙ e)

    -- every other vertex leaves
    pub every_removed : (i : ℕ) → i < n → i ≢ v 0 → i ≢ v 1 → (j : ℕ) × (j < n - 2) × (removed_at t j ≡ i)
    every_removed i h p q = stored_in n t 0 R.trace stored (R.leaves i h p q)

    -- ---- no vertex leaves twice: n - 2 vertices are to leave, in n - 2 steps

    goes : ℕ → Bool
    goes i = not (eqb i (v 0)) && not (eqb i (v 1))

    goes-true : (i : ℕ) → i ≢ v 0 → i ≢ v 1 → goes i ≡ true
    unfolding goes
    goes-true i p q = rw (ne_eqb i (v 0) p, ne_eqb i (v 1) q)

    goers : List ℕ
    goers = filter goes (upto n)

    goers_many : n - 2 ≤ length goers
    unfolding goers
    goers_many =
        let rest = filter (λ i. not (goes i)) (upto n) in
        let two : length rest ≤ 2 = distinct_within (distinct_filter (λ i. not (goes i)) (distinct_upto n)) (v 0 ∷ v 1 ∷ []) stay in
        omega (arith, filter-not goes (upto n), length-upto n)
      where
        stay : (i : ℕ) → i ∈ filter (λ i. not (goes i)) (upto n) → i ∈ v 0 ∷ v 1 ∷ []
        stay i m =
            elim (ℕ_discrete i (v 0)) [
              | yes p ↦ Memᴰ.head p
              | no p ↦
                  elim (ℕ_discrete i (v 1)) [
                    | yes q ↦ Memᴰ.tail (Memᴰ.head q)
                    | no q ↦ clash (filter_in (λ i. not (goes i)) (upto n) m).1 (ap not (goes-true i p q))
                  ]
            ]

    goer : {i : ℕ} → i ∈ goers → (i < n) × (i ≢ v 0) × (i ≢ v 1)
    unfolding goers goes
    goer {i} m =
        let k = filter_in goes (upto n) m in
        let b = and_both (not (eqb i (v 0))) (not (eqb i (v 1))) k.1 in
        (upto_in n k.0, eqb-false i (v 0) (not-true (eqb i (v 0)) b.0), eqb-false i (v 1) (not-true (eqb i (v 1)) b.1))

    -- when a vertex leaves
    when : ℕ → ℕ
    when i = first_or (λ j. eqb (removed_at t j) i) 0 (upto (n - 2))

    when_is : (i : ℕ) → i ∈ goers → (when i < n - 2) × (removed_at t (when i) ≡ i)
    unfolding when
    when_is i m =
        let g = goer m in
        let e = every_removed i g.0 g.1 g.2 in
        let s = first_or_in (λ j. eqb (removed_at t j) i) 0 (upto (n - 2))
        (true-any (λ j. eqb (removed_at t j) i) (in_upto (n - 2) e.0 e.1) (eq-eqb (removed_at t e.0) i e.2)) in
        (upto_in (n - 2) s.0, eqb-true (removed_at t (when i)) i s.1)

    full : (k : ℕ) → k < n - 2 → k ∈ map when goers
    unfolding goers
    full k h =
        distinct_full
        (distinct_map when (λ x y p q e. sym (when_is x p).1 ∙ ap (removed_at t) e ∙ (when_is y q).1) (distinct_filter goes (distinct_upto n)))
        (upto (n - 2)) inside (omega (arith, goers_many, length-upto (n - 2), length-map goers when)) k (in_upto (n - 2) k h)
      where
        inside : (j : ℕ) → j ∈ map when goers → j ∈ upto (n - 2)
        inside j m = let r = Memᴰ.of_map when goers m in in_upto (n - 2) j (omega (arith, (when_is r.0 r.1).0, r.2))

    -- the step is known by the vertex
    when_who : (k : ℕ) → k < n - 2 → when (removed_at t k) ≡ k
    when_who k h =
        let r = Memᴰ.of_map when goers (full k h) in
        let e : k ≡ when r.0 = sym r.2 in
        ap when (ap (removed_at t) e ∙ (when_is r.0 r.1).1) ∙ sym e

    pub removed-once : (i j : ℕ) → i < n - 2 → j < n - 2 → removed_at t i ≡ removed_at t j → i ≡ j
    removed-once i j h l e = sym (when_who i h) ∙ ap when e ∙ when_who j l

-- ---- other tables with the same trace

module _ {T : ℕ} {org opp : ℕ → ℕ} (n : ℕ) (t t' : Peeling) (same : (k : ℕ) → removed_at t' k ≡ removed_at t k) (left : (k : ℕ) →
    k < n - 2 → t'.left (removed_at t k) ≡ t.left (removed_at t k))
    (right : (k : ℕ) → k < n - 2 → t'.right (removed_at t k) ≡ t.right (removed_at t k)) where
  pub stored_same : {C : List ℕ} (k : ℕ) (tr : Trace T org opp C) → Stored n T org opp t k tr → Stored n T org opp t' k tr
  stored_same k done q = q
  stored_same k (step e e' gs h o f s tr) q =
      let l : k < n - 2 = omega (arith, stored-length n t (suc k) tr q.3) in (
        same k ∙ q.0,
        ap t'.left (sym q.0) ∙ left k l ∙ ap t.left q.0 ∙ q.1,
        ap t'.right (sym q.0) ∙ right k l ∙ ap t.right q.0 ∙ q.2,
        stored_same (suc k) tr q.3,
      )
