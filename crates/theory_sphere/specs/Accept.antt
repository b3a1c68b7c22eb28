-- An accepted mesh has the facts of `Sphere`, and a mesh that has them is accepted: the tests of rows 1 to 8 are just these facts.
-- Assumes nothing.
use Prim.Native.Nat.{ℕ, zero, suc, ◌-◌, ◌*◌, ◌/◌, ◌≤◌, ◌<◌}
use Rattle.std.specs.Prelude.{◌≡◌, true, false, List, ltb, length}
use Rattle.std.proofs.Math.Path.{refl, ap}
use Rattle.std.proofs.Common.{sym, ◌∙◌, subst, arith, ltb-false, le-ltb}
use Rattle.definitions.specs.Mesh.{triangles_length, tri, prev, org, opp, rot, rotations, outgoing, ring}
use Rattle.definitions.specs.Refusals.{row1, most_vertices, Accepted}
use Rattle.laws.specs.Chain.{Chain, stop, step}
use Rattle.laws.specs.Lists.{◌∈◌, or_neither}
use Rattle.laws.specs.Counting.{Distinct}
use Rattle.laws.specs.Orbits.{Period}
use Rattle.theory_sphere.specs.Sphere.{Sphere, rotate}
use Rattle.theory_sphere.specs.Darts.{prev-below}
use Rattle.theory_sphere.specs.Rows.{outgoing_in, in_outgoing}
use Rattle.theory_sphere.specs.Sides.{sphere_sides, rotate-below, rotate-org, sides, sides_opp, sides_rows, rot-below}
use Rattle.theory_sphere.specs.Rings.{Rotating, rotate-rot, rotations_in, ring_means, rotations_period, rotations-all, rotations_distinct}
use Rattle.theory_sphere.specs.Vertices.{row7or25_means}
use Rattle.theory_sphere.specs.Components.{row8-joined}
use Rattle.theory_sphere.specs.FirstRefusal.{Clean, refusal_clean, clean_refusal}

-- row 1: n is in range
pub row1-range : (most n : ℕ) → row1 most n ≡ false → (3 ≤ n) × (n ≤ most)
unfolding row1
row1-range most n e = let r = or_neither (ltb n 3) (ltb most n) e in (ltb-false n 3 r.0, ltb-false most n r.1)

pub range-row1 : (most n : ℕ) → 3 ≤ n → n ≤ most → row1 most n ≡ false
unfolding row1
range-row1 most n h l = rw (le-ltb n 3 h) (le-ltb most n l)

-- so many numbers make whole triangles
pub whole-triangles : (n : ℕ) (ts : List ℕ) → length ts ≡ triangles_length n → (length ts / 3 ≡ 2 * n - 4) × (length ts ≡ 3 * (length ts / 3))
whole-triangles n ts e = omega arith

-- a path of another graph that has the same good arcs
chain_from : {Good : ℕ → Type 0} {src tgt : ℕ → ℕ} {y x z : ℕ} → x ≡ z → Chain Good src tgt y x → Chain Good src tgt y z
chain_from q (stop e) = stop (sym q ∙ e)
chain_from q (step d g e c) = step d g (e ∙ q) c

chain_same : {Good : ℕ → Type 0} {src tgt : ℕ → ℕ} {y x : ℕ} (tgt' : ℕ → ℕ) → ((d : ℕ) → Good d → tgt d ≡ tgt' d)
    → Chain Good src tgt y x → Chain Good src tgt' y x
chain_same tgt' h (stop e) = stop e
chain_same tgt' h (step d g e c) = step d g e (chain_from (h d g) (chain_same tgt' h c))

module _ (n : ℕ) (ts : List ℕ) where
  abbrev T : ℕ
  T = length ts / 3

  -- what is accepted is a sphere
  pub accepted_sphere : Accepted n ts → Sphere n (length ts / 3) (org ts) (opp ts)
  accepted_sphere a =
      let range = row1-range most_vertices n a.0 in
      let w = whole-triangles n ts a.1 in
      let c = refusal_clean n ts a.2 in
      let S = sides ts T w.1 n c.clean3 c.clean4 c.clean5 c.clean6 in
      let at : (v : ℕ) → v < n → Rotating ts v = λ v h. (ring_means ts T w.1 n S v).0 ((row7or25_means ts n).0 c.clean7 v h) in
      record {
        least = range.0;
        size = omega arith;
        vertex = S.vertex;
        dart = S.dart;
        twice = S.twice;
        reverses = S.reverses;
        proper = S.proper;
        once = S.once;
        used = λ v h.
            let r = at v h in
            let l = outgoing_in ts v r.0.1 in
            (r.0.0, omega (arith, l.0), l.1);
        ring = λ d e h l q.
            let v = org ts d in
            let r = (at v (S.vertex d h)).1 d e (in_outgoing ts v d (omega arith) refl) (in_outgoing ts v e (omega arith) (sym q)) in
            (r.0, rotate-rot ts r.0 d ∙ r.1);
        joined = (row8-joined ts).0 c.clean8;
      }

  -- a sphere of an allowed size is accepted, whatever function serves as its opposite
  module _ (o : ℕ → ℕ) (s : Sphere n (length ts / 3) (org ts) o) (whole : length ts ≡ 3 * (length ts / 3)) where
    -- and that function is `opp`
    pub sphere_opp : (d : ℕ) → d < 3 * (length ts / 3) → opp ts d ≡ o d
    sphere_opp = sides_opp ts T whole n o (sphere_sides s)

    rotate-same : (k d : ℕ) → d < 3 * T → rotate (opp ts) k d ≡ rotate o k d
    unfolding rotate
    rotate-same zero d h = refl
    rotate-same (suc k) d h =
        ap (rotate (opp ts) k) (sphere_opp (prev d) (prev-below T d h)) ∙ rotate-same k (o (prev d)) (rot-below (sphere_sides s) d h)

    pub sphere_clean : Clean n ts
    sphere_clean =
        let r = sides_rows ts T whole n o (sphere_sides s) in
        let S = sides ts T whole n r.0 r.1 r.2 r.3 in
        let below : (d : ℕ) → d < length ts → d < 3 * T = λ d h. omega arith in
        let turning : (v : ℕ) → v < n → Rotating ts v = λ v h.
        let u = s.used v h in (
          (u.0, in_outgoing ts v u.0 (omega (arith, u.1)) u.2),
          λ d e m k.
              let a = outgoing_in ts v m in
              let b = outgoing_in ts v k in
              let t = s.ring d e (below d a.0) (below e b.0) (a.1 ∙ sym b.1) in
              (t.0, sym (rotate-rot ts t.0 d) ∙ rotate-same t.0 d (below d a.0) ∙ t.1),
        ) in
        record {
          clean3 = r.0;
          clean4 = r.1;
          clean5 = r.2;
          clean6 = r.3;
          clean7 = (row7or25_means ts n).1 (λ v h. (ring_means ts T whole n S v).1 (turning v h));
          clean8 = (row8-joined ts).1 (λ t h. chain_same (λ d. tri (opp ts d)) (λ d l. ap tri (sym (sphere_opp d l))) (s.joined t h));
        }

  pub sphere_accepted : (o : ℕ → ℕ) → 3 ≤ n → n ≤ 4096 → length ts ≡ triangles_length n → Sphere n (length ts / 3) (org ts) o →
      Accepted n ts
  sphere_accepted o h l e s =
      (range-row1 most_vertices n h l, e, clean_refusal n ts (sphere_clean o s (whole-triangles n ts e).1))

-- ---- round a vertex of a sphere

module _ (n : ℕ) (ts : List ℕ) (s : Sphere n (length ts / 3) (org ts) (opp ts)) (whole : length ts ≡ 3 * (length ts / 3)) where
  pub sphere_ring : (v : ℕ) → v < n → ring ts (outgoing ts v) ≡ true
  sphere_ring = (row7or25_means ts n).0 (sphere_clean n ts (opp ts) s whole).clean7

  module _ (d : ℕ) (h : d < 3 * (length ts / 3)) where
    mine : d ∈ outgoing ts (org ts d)
    mine = in_outgoing ts (org ts d) d (omega arith) refl

    passes : ring ts (outgoing ts (org ts d)) ≡ true
    passes = sphere_ring (org ts d) (s.vertex d h)

    -- rotations from a dart come back to it first after as many rotations as there are darts at its origin
    pub sphere_period : Period (rot ts) d (length (outgoing ts (org ts d)))
    sphere_period = rotations_period ts (length ts / 3) whole n (sphere_sides s) (org ts d) passes d mine

    -- so these rotations meet every dart at its origin, each once
    pub sphere_rotations-all : (e : ℕ) → e < 3 * (length ts / 3) → org ts e ≡ org ts d → e ∈ rotations ts (length (outgoing ts (org ts d))) d
    sphere_rotations-all e l q =
        rotations-all ts (length ts / 3) whole n (sphere_sides s) (org ts d) passes d mine e (in_outgoing ts (org ts d) e (omega arith) q)

    pub sphere_rotations_distinct : Distinct (rotations ts (length (outgoing ts (org ts d))) d)
    sphere_rotations_distinct = rotations_distinct ts (length ts / 3) whole n (sphere_sides s) (org ts d) passes d mine

    pub sphere_rotations_in : {e : ℕ} (k : ℕ) → e ∈ rotations ts k d → (e < 3 * (length ts / 3)) × (org ts e ≡ org ts d)
    sphere_rotations_in {e} k m =
        let r = rotations_in ts k d m in (
          subst (λ (x : ℕ). x < 3 * (length ts / 3)) r.2 (rotate-below (sphere_sides s) r.0 d h),
          ap (org ts) (sym r.2) ∙ rotate-org (sphere_sides s) r.0 d h,
        )
