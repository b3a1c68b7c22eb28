-- The whole stage: with an accepted mesh in the tables it leaves the labels of the definition and the trace of its peeling.
-- Assumes nothing.
use Rattle.std.specs.Prelude.{ℕ, ◌+◌, ◌-◌, ◌*◌, ◌/◌, ◌%◌, ◌≤◌, ◌<◌, ◌≡◌, ◌⊎◌, length, ℤ}
use Rattle.std.proofs.Common.{sym, ap, ◌∙◌, inl, inr}
use mathlib.Core.List.Memᴰ
use mathlib.Core.List.{List, [], ◌∷◌}
use native.Mathlib.Omega.{arith}
use Rattle.std.proofs.Math.Decide.{dec_lt}
use Rattle.definitions.specs.Lists.{iterate}
use Rattle.definitions.specs.Mesh.{triangles_length, tri, next, prev, org, opp}
use Rattle.definitions.specs.Labels.{Peeling as State, outer, start, step, peel, label_of, labels, label}
use Rattle.laws.specs.Lists.{◌∈◌}
use Rattle.laws.specs.Edges.{Dist}
use Rattle.theory_sphere.specs.Sphere.{Sphere}
use Rattle.theory_sphere.specs.Darts.{tri-below, corner-cases}
use Rattle.theory_realizer.specs.Realizer.{Realizer}
use Rattle.theory_peeling.specs.Inside.{org_opp0, org_opp1, org_opp2, three, inside-start}
use Rattle.theory_peeling.specs.Peel.{Peel, trace, passes, fans-trace, removed_vertices-trace, passes-inside, passes-all, gone-all}
use Rattle.theory_peeling.specs.Vertices.{state, outer0, outer1, outer2, v0, v1}
use Rattle.theory_peeling.specs.NeverStuck.{peel_is, passed_is, passed_all, passed_once}
use Rattle.theory_peeling.specs.Colours.{coloured_trace, label-two}
use Rattle.theory_peeling.specs.Realized.{realized}
use Rattle.theory_peeling.specs.Labelled.{label_is, label_rule, passed_labels}
use Rattle.labels_tables.specs.Peeling.{Peeling, peeling}
use Rattle.labels_tables.specs.LabelledTables.{label_in, Peeled, outer-label, inner-label, rim-label}
use Rattle.labels_model.specs.Model.{init, peel_tables}
use Rattle.labels_model.specs.Counters.{Meshed}
use Rattle.labels_model.specs.LabelTriangle.{dart-inner, Coded}
use Rattle.labels_model.specs.Simulation.{Followed}
use Rattle.labels_model.proofs.Simulation.{follow}
use Rattle.labels_model.proofs.Init.{begun}

-- the labels of a triangle, by the corner g that has label 2
module _ (g d a : ℕ) (e : a ≡ g % 3) where
  label-here : d ≡ g → (d % 3 + 5 - a) % 3 ≡ 2
  label-here q = omega arith

  label-next : d ≡ next g → (d % 3 + 5 - a) % 3 ≡ 0
  unfolding next
  label-next q = omega arith

  label-prev : d ≡ prev g → (d % 3 + 5 - a) % 3 ≡ 1
  unfolding prev
  label-prev q = omega arith

module _ (n : ℕ) (ts : List ℕ) (s : Sphere n (length ts / 3) (org ts) (opp ts)) (exact : length ts ≡ triangles_length n) (most : n ≤ 4096) where
  abbrev T : ℕ
  T = length ts / 3

  abbrev o : ℕ → ℕ
  o = org ts

  abbrev op : ℕ → ℕ
  op = opp ts

  len : 3 * T ≡ length ts
  len = omega (arith, exact)

  -- the frontier's darts at the start
  abbrev D : List ℕ
  D = op 0 ∷ op 1 ∷ []

  start_is : start ts ≡ state ts [] D []
  unfolding start outer
  start_is =
      let a = org_opp2 s in
      let b = org_opp0 s in
      let c = org_opp1 s in
      rw (a, b, c)

  -- ---- the labels

  abbrev P : List ℕ
  P = (peel ts n).passed

  once : Dist tri P
  once = passed_once n ts s exact

  -- the corner with label 2 of each inner triangle is the one that was passed
  module _ (t : Peeling) (c : Coded P t) where
    apex_of : (k : ℕ) → 0 < k → k < T → (g : ℕ) × (g ∈ P) × (tri g ≡ k) × (t.apex k ≡ g % 3)
    apex_of k h l = let r = passed_all n ts s exact k h l in (r.0, r.1, r.2, ap t.apex (sym r.2) ∙ c r.0 r.1)

    apex_small : (k : ℕ) → 0 < k → k < T → t.apex k < 3
    apex_small k h l = omega (arith, (apex_of k h l).3)

    inner_is : (d : ℕ) → 3 ≤ d → d < length ts → label_in t d ≡ label_of P d
    inner_is d i h =
        let r = apex_of (tri d) (dart-inner d i) (tri-below T d (omega (arith, len))) in
        let g = r.0 in
        let l = label_rule P once g r.1 in
        inner-label t d i ∙ elim (corner-cases g d (sym r.2)) [
          | inl e ↦ label-here g d (t.apex (tri d)) r.3 e ∙ sym l.0 ∙ ap (label_of P) (sym e)
          | inr q ↦ elim q [
            | inl e ↦ label-next g d (t.apex (tri d)) r.3 e ∙ sym l.1 ∙ ap (label_of P) (sym e)
            | inr e ↦ label-prev g d (t.apex (tri d)) r.3 e ∙ sym l.2 ∙ ap (label_of P) (sym e)
          ]
        ]

    labels_are : (d : ℕ) → d < length ts → label_in t d ≡ label (labels n ts) d
    labels_are d h =
        elim (dec_lt d 3) [
          | yes l ↦ rim-label t d l ∙ sym (outer-label (labels n ts) d l)
          | no l ↦ let i : 3 ≤ d = omega arith in inner_is d i h ∙ sym (label_is n ts d i (omega (arith, len)))
        ]

  -- ---- the peeling that the work follows

  module _ (p : Peel n T o op [] D) (same : passes p ≡ P) where
    abbrev ls : ℕ → ℕ
    ls = label (labels n ts)

    lab : (g : ℕ) → g ∈ passes p → (ls g ≡ 2) × (ls (next g) ≡ 0) × (ls (prev g) ≡ 1)
    lab g m = passed_labels n ts s exact g (rw same at m)

    inner : (g : ℕ) → g ∈ passes p → (g < 3 * T) × (0 < tri g)
    inner g m = let i = passes-inside s p g m in (i.below, i.inner)

    cov : (d : ℕ) → d < 3 * T → 0 < tri d → (g : ℕ) × (g ∈ passes p) × (tri g ≡ tri d)
    cov d b h = passes-all s p d (inside-start s d b h)

    behind : (x : ℕ) → x ∈ D → (op x ≡ 0) ⊎ (op x ≡ 1) ⊎ ((g : ℕ) × (g ∈ passes p) × (op x ≡ next g))
    behind x m =
        elim (Memᴰ.cases_cons m) [
          | inl t ↦ inl (ap op t ∙ s.twice 0 (omega (arith, three s)))
          | inr k ↦ inr (inl (ap op (Memᴰ.eq_of_singleton k) ∙ s.twice 1 (omega (arith, three s))))
        ]

    -- the rules of a realizer, with the trace of this peeling
    rules : Realizer n T o op ls (outer ts)
    rules =
        let r = realized s p ls (outer ts) lab (outer0 ts) (outer1 ts) (outer2 ts) in
        record {
          corners = r.corners;
          coloured = r.coloured;
          out = r.out;
          only = r.only;
          rank = r.rank;
          rank_below = r.rank_below;
          rank_rises = r.rank_rises;
          triangle_rank = r.triangle_rank;
          triangle_rank_below = r.triangle_rank_below;
          triangle_rank_rises = r.triangle_rank_rises;
          trace = trace p;
          colours = coloured_trace s (passes p) ls (outer ts) lab inner (outer0 ts) (outer1 ts) p (λ g m. m) behind;
          passes = λ g b h t. rw (fans-trace p) (label-two s (passes p) ls (outer ts) lab inner (outer0 ts) (outer1 ts) cov g b h t);
          leaves = λ i h a b. rw (removed_vertices-trace p) (elim (gone-all s p i h Memᴰ.not-nil) [
            | inl m ↦ m
            | inr q ↦ elim q [ inl t ↦ absurd (a (t ∙ v0 n ts s len)) | inr t ↦ absurd (b (t ∙ v1 n ts s len)) ]
          ]);
        }

  -- ---- the stage

  module _ (t : Peeling) (mesh : Meshed ts t) where
    followed : Followed n ts s len (n - 2) 0 [] D [] (init n t) (peel_tables n t)
    unfolding peel_tables
    followed = follow n ts s len (n - 2) 0 [] D [] (init n t) (begun n ts s len t mesh most) (omega (arith, s.least))

    same_passed : passes followed.peel ≡ P
    same_passed =
        let e : n - 2 ≡ n - 2 + 0 = omega arith in
        let a : (iterate (step ts) (n - 2) (start ts)).passed
        ≡ passes followed.peel = ap (λ (q : State). q.passed) (ap (iterate (step ts) (n - 2)) start_is ∙ followed.ends) in
        let b : (iterate (step ts) (n - 2) (start ts)).passed ≡ P = ap (λ (k : ℕ). (iterate (step ts) k (start ts)).passed) e
        ∙ ap (λ (q : State). q.passed) (peel_is n ts s exact 0) ∙ sym (passed_is n ts s exact) in
        sym a ∙ b

    coded : Coded P (peel_tables n t)
    coded = rw same_passed at followed.coded

    pub peeled_tables : (z : List ℤ) → 10 * n ≤ length z → peeling z ≡ peel_tables n t → Peeled n ts (labels n ts) z
    unfolding rules
    peeled_tables z room e =
        record {
          labelled = record {
            most = most;
            room = room;
            size = exact;
            sphere = s;
            turns = rw e followed.meshed.turns;
            origins = rw e followed.meshed.origins;
            apexes = rw e (apex_small (peel_tables n t) coded);
            labels = rw e (labels_are (peel_tables n t) coded);
          };
          realizer = rules followed.peel same_passed;
          stored = rw e followed.stored;
        }
