-- The peeling of an accepted mesh never gets stuck: n - 2 vertices leave, v0 and v1 stay, and each inner triangle is passed once. Assumes nothing.
use Prim.Native.Nat.{ℕ, zero, suc, ◌+◌, ◌-◌, ◌*◌, ◌/◌, ◌<◌}
use Rattle.std.specs.Prelude.{◌≡◌, ◌≢◌, List, [], ◌∷◌, map, length}
use Rattle.std.proofs.Math.Path.{refl, sym, ap}
use Rattle.std.proofs.Common.{◌∙◌, arith}
use Rattle.std.proofs.Math.Logic.{inl, inr}
use Rattle.std.proofs.Math.Option.{none, some}
use mathlib.Core.List.Memᴰ
use Rattle.std.proofs.lemmas.List.{length-map}
use Rattle.definitions.specs.Lists.{range as numbers, iterate, minimum}
use Rattle.definitions.specs.Mesh.{tri, org, opp}
use Rattle.definitions.specs.Labels.{Peeling, outer, start, removable, next_removable, step, peel}
use Rattle.laws.specs.Lists.{◌∈◌, untrue, filter_none, iterate-add, length-range, range_in, in_range}
use Rattle.laws.specs.Counting.{Distinct, nil, distinct_within, distinct_range}
use Rattle.laws.specs.Edges.{Dist, dist_distinct, dist_members}
use Rattle.theory_sphere.specs.Sphere.{Sphere}
use Rattle.theory_sphere.specs.Darts.{tri-first, tri-below}
use Rattle.theory_peeling.specs.Inside.{org_opp0, org_opp1, org_opp2, tip_opp2}
use Rattle.theory_peeling.specs.Inside as Invariant
use Rattle.theory_peeling.specs.Peel.{Peel, passes, final, final_in, in_final, final_distinct, passes-inside, passes-all, passes-once, gone-all}
use Rattle.theory_peeling.specs.Peel.{gone-below, gone-inner}
use Rattle.theory_peeling.specs.Vertices.{state, removable-inner, v0, v1}
use Rattle.theory_peeling.specs.Run.{At, Ran, run, step-none}

module _ (n : ℕ) (ts : List ℕ) (s : Sphere n (length ts / 3) (org ts) (opp ts)) (exact : length ts ≡ 3 * (2 * n - 4)) where
  pub whole : 3 * (length ts / 3) ≡ length ts
  whole = omega arith

  start_is : start ts ≡ state ts [] (opp ts 0 ∷ opp ts 1 ∷ []) []
  unfolding start outer
  start_is =
      let a = org_opp2 s in
      let b = org_opp0 s in
      let c = org_opp1 s in
      rw (a, b, c)

  ran : Ran n ts s whole (n - 2) [] (opp ts 0 ∷ opp ts 1 ∷ []) []
  ran = run n ts s whole (n - 2) [] (opp ts 0 ∷ opp ts 1 ∷ []) [] (Invariant.start s) nil (λ w m. absurd (Memᴰ.not-nil m))
      (omega (arith, s.least))

  -- the peeling with its invariant
  pub peeling : Peel n (length ts / 3) (org ts) (opp ts) [] (opp ts 0 ∷ opp ts 1 ∷ [])
  peeling = ran.peel

  -- before n - 2 steps are made there is a vertex that can leave
  pub never_stuck : (k : ℕ) → k < n - 2 → (v : ℕ) × (next_removable ts (iterate (step ts) k (start ts)) ≡ some v)
  never_stuck k h = rw start_is (ran.moves k h)

  -- and the invariant holds of what is there
  pub states : (k : ℕ) → k < n - 2 → At n ts s whole k (iterate (step ts) k (start ts))
  states k h = let e : k ≡ 0 + k = omega arith in rw start_is (rw (sym e) at (ran.states k h))

  -- where v0 and v1 are left no vertex can leave, and nothing changes any more
  nobody : (R P : List ℕ) → next_removable ts (state ts R (2 ∷ []) P) ≡ none
  unfolding next_removable minimum
  nobody R P = ap minimum (filter_none (removable ts (state ts R (2 ∷ []) P)) (map (org ts) (opp ts 2 ∷ 2 ∷ [])) (λ w m.
      untrue (removable ts (state ts R (2 ∷ []) P) w) (λ t.
      let i = removable-inner ts (state ts R (2 ∷ []) P) w t in
      elim (Memᴰ.cases_cons m) [
        | inl e ↦ i.0 (e ∙ v0 n ts s whole)
        | inr k ↦ i.1 (Memᴰ.eq_of_singleton k ∙ sym (tip_opp2 s) ∙ v1 n ts s whole)
      ])))

  stays : (R P : List ℕ) (k : ℕ) → iterate (step ts) k (state ts R (2 ∷ []) P) ≡ state ts R (2 ∷ []) P
  unfolding iterate
  stays R P zero = refl
  stays R P (suc k) = ap (iterate (step ts) k) (step-none ts (state ts R (2 ∷ []) P) (nobody R P)) ∙ stays R P k

  -- n - 2 steps, and any number of further ones
  pub peel_is : (k : ℕ) → iterate (step ts) (n - 2 + k) (start ts) ≡ state ts (final peeling) (2 ∷ []) (passes peeling)
  unfolding peeling
  peel_is k =
      iterate-add (step ts) (n - 2) k (start ts) ∙ ap (iterate (step ts) k) (ap (iterate (step ts) (n - 2)) start_is ∙ ran.ends)
      ∙ stays (final ran.peel) (passes ran.peel) k

  whole-peel : peel ts n ≡ state ts (final peeling) (2 ∷ []) (passes peeling)
  unfolding peel
  whole-peel = let e : n ≡ n - 2 + 2 = omega (arith, s.least) in ap (λ (k : ℕ). iterate (step ts) k (start ts)) e ∙ peel_is 2

  pub passed_is : (peel ts n).passed ≡ passes peeling
  passed_is = ap (λ (p : Peeling). p.passed) whole-peel

  removed_is : (peel ts n).removed ≡ final peeling
  removed_is = ap (λ (p : Peeling). p.removed) whole-peel

  -- the frontier after n - 2 steps or more is v0, v1
  pub frontier_ends : (k : ℕ) → (iterate (step ts) (n - 2 + k) (start ts)).frontier ≡ outer ts 0 ∷ outer ts 1 ∷ []
  frontier_ends k =
      let a = v0 n ts s whole in
      let b : org ts 2 ≡ outer ts 1 = sym (tip_opp2 s) ∙ v1 n ts s whole in
      ap (λ (p : Peeling). p.frontier) (peel_is k) ∙ rw (a, b)

  pub peel_frontier : (peel ts n).frontier ≡ outer ts 0 ∷ outer ts 1 ∷ []
  unfolding peel
  peel_frontier = let e : n ≡ n - 2 + 2 = omega (arith, s.least) in ap (λ (k : ℕ). (iterate (step ts) k (start ts)).frontier) e ∙ frontier_ends 2

  -- `passed` has one dart of each inner triangle, and none of the outer one
  pub passed_inner : (g : ℕ) → g ∈ (peel ts n).passed → (g < length ts) × (0 < tri g)
  passed_inner g m = let i = passes-inside s peeling g (rw passed_is at m) in (omega (arith, i.below, whole), i.inner)

  pub passed_all : (t : ℕ) → 0 < t → t < length ts / 3 → (g : ℕ) × (g ∈ (peel ts n).passed) × (tri g ≡ t)
  passed_all t h b =
      let d = 3 * t in
      let e : tri d ≡ t = tri-first t in
      let r = passes-all s peeling d (Invariant.inside-start s d (omega arith) (rw e h)) in
      (r.0, rw passed_is r.1, r.2 ∙ e)

  pub passed_once : Dist tri (peel ts n).passed
  passed_once = rw passed_is (passes-once s peeling)

  pub passed_distinct : Distinct (peel ts n).passed
  passed_distinct = dist_members tri (peel ts n).passed passed_once

  pub passed_length : length (peel ts n).passed ≡ length ts / 3 - 1
  passed_length =
      let p = (peel ts n).passed in
      let m = length ts / 3 - 1 in
      let up = distinct_within (dist_distinct tri p passed_once) (numbers 1 m) (λ t k.
      let r = Memᴰ.of_map tri p k in
      let i = passed_inner r.0 r.1 in
      in_range 1 m t (rw (sym r.2) i.1) (rw (sym r.2) (omega (arith, tri-below (length ts / 3) r.0 (omega (arith, i.0, whole)))))) in
      let down = distinct_within (distinct_range 1 m) (map tri p) (λ t k.
      let i = range_in 1 m k in
      let r = passed_all t i.0 (omega (arith, i.1)) in
      Memᴰ.cast (sym r.2) (Memᴰ.map tri r.1)) in
      omega (arith, up, down, length-map p tri, length-range 1 m)

  -- every vertex but v0 and v1 is removed, once
  pub removed-once : Distinct (peel ts n).removed
  removed-once = rw removed_is (final_distinct peeling nil)

  pub removed-inner : (w : ℕ) → w ∈ (peel ts n).removed → (w < n) × (w ≢ outer ts 0) × (w ≢ outer ts 1)
  removed-inner w m =
      elim (final_in peeling w (rw removed_is at m)) [
        | inl k ↦ absurd (Memᴰ.not-nil k)
        | inr k ↦
            let i = gone-inner s peeling w k in
            (gone-below s peeling w k, λ e. i.0 (e ∙ sym (v0 n ts s whole)), λ e. i.1 (e ∙ sym (v1 n ts s whole)))
      ]

  pub removed-all : (w : ℕ) → w < n → w ≢ outer ts 0 → w ≢ outer ts 1 → w ∈ (peel ts n).removed
  removed-all w h a b =
      rw removed_is (elim (gone-all s peeling w h Memᴰ.not-nil) [
        | inl m ↦ in_final peeling w m
        | inr r ↦ elim r [ inl e ↦ absurd (a (e ∙ v0 n ts s whole)) | inr e ↦ absurd (b (e ∙ v1 n ts s whole)) ]
      ])
