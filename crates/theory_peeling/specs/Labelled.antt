-- The labels of an accepted mesh: each inner triangle's corners carry 0, 1, 2 in that order along its sides, and they keep the rules of a realizer. Assumes
-- nothing.
use Prim.Native.Nat.{ℕ, zero, suc, ◌+◌, ◌-◌, ◌*◌, ◌/◌, ◌≤◌, ◌<◌}
use Rattle.std.specs.Prelude.{◌≡◌, refl, ◌≢◌, ◌⊎◌, false, length}
use Rattle.std.proofs.Common.{sym, ◌∙◌, inl, inr}
use Rattle.std.proofs.Math.Path.{ap}
use mathlib.Core.List.Memᴰ
use mathlib.Core.List.{List, ◌∷◌, ◌++◌, map, flat_map}
use native.Mathlib.Omega.{arith}
use Rattle.std.proofs.Math.ListN.{get_or}
use Rattle.std.proofs.lemmas.List.{length-map}
use Rattle.definitions.specs.Lists.{range, elem}
use Rattle.definitions.specs.Mesh.{labels_length, tri, next, prev, corners, org, opp, inner}
use Rattle.definitions.specs.Labels.{outer, peel, label_of, labels, label}
use Rattle.laws.specs.Lists.{◌∈◌, true-elem, false-elem, range_append, length-range, range_in}
use Rattle.laws.specs.Edges.{Dist, dist_same}
use Rattle.theory_sphere.specs.Sphere.{Sphere}
use Rattle.theory_sphere.specs.Darts.{tri-next, tri-prev, next-prev, prev-next, prev-prev, next-other, prev-other, next-below, prev-below, tri-below}
use Rattle.theory_sphere.specs.Darts.{corner-cases}
use Rattle.theory_realizer.specs.Realizer.{Realizer}
use Rattle.theory_peeling.specs.Vertices.{outer0, outer1, outer2}
use Rattle.theory_peeling.specs.NeverStuck.{peeling, passed_is, passed_inner, passed_all, passed_once}
use Rattle.theory_peeling.specs.Realized.{realized}

-- ---- the rule of labels, over any list of darts of different triangles

module _ (P : List ℕ) (once : Dist tri P) where
  -- a dart passed is the only one of its triangle
  other : (g d : ℕ) → g ∈ P → tri d ≡ tri g → d ≢ g → elem d P ≡ false
  other g d m t ne = false-elem d P (λ k. ne (dist_same tri P once d g k m t))

  -- 2 at a dart passed, 0 at the next, 1 at the previous one
  pub label_rule : (g : ℕ) → g ∈ P → (label_of P g ≡ 2) × (label_of P (next g) ≡ 0) × (label_of P (prev g) ≡ 1)
  unfolding label_of
  label_rule g m =
      let a = true-elem m in
      let b = other g (next g) m (tri-next g) (next-other g) in
      let c = other g (prev g) m (tri-prev g) (prev-other g) in
      (rw a, rw (b, prev-next g, a), rw (c, prev-prev g, b, next-prev g, a))

-- ---- the labels as a list

-- the corners of the triangles t, t + 1, .. are all darts from 3t on
corners-run : (t k : ℕ) → flat_map corners (range t k) ≡ range (3 * t) (3 * k)
unfolding flat_map range corners
corners-run t zero = refl
corners-run t (suc k) =
    let e : 3 * suc k ≡ 3 + 3 * k = omega arith in
    let f : 3 * suc t ≡ 3 * t + 3 = omega arith in
    ap (λ (r : List ℕ). range (3 * t) 3 ++ r) (corners-run (suc t) k ∙ ap (λ (x : ℕ). range x (3 * k)) f)
    ∙ sym (range_append (3 * t) 3 (3 * k)) ∙ ap (range (3 * t)) (sym e)

get_or-map-run : (f : ℕ → ℕ) (a k i b : ℕ) → i < k → get_or (map f (range a k)) i b ≡ f (a + i)
unfolding range
get_or-map-run f a zero i b h = absurd (omega arith)
get_or-map-run f a (suc k) zero b h = let e : a ≡ a + 0 = omega arith in ap f e
get_or-map-run f a (suc k) (suc i) b h = let e : suc a + i ≡ a + suc i = omega arith in get_or-map-run f (suc a) k i b (omega arith) ∙ ap f e

module _ (n : ℕ) (ts : List ℕ) where
  abbrev P : List ℕ
  P = (peel ts n).passed

  labels_are : labels n ts ≡ map (label_of P) (range 3 (3 * (length ts / 3 - 1)))
  unfolding labels inner
  labels_are = ap (map (label_of P)) (corners-run 1 (length ts / 3 - 1))

  pub labels_length_lem : length (labels n ts) ≡ 3 * (length ts / 3 - 1)
  labels_length_lem = ap length labels_are ∙ length-map (range 3 (3 * (length ts / 3 - 1))) (label_of P) ∙ length-range 3 (3 * (length ts / 3 - 1))

  -- the label of a corner of an inner triangle
  pub label_is : (d : ℕ) → 3 ≤ d → d < 3 * (length ts / 3) → label (labels n ts) d ≡ label_of P d
  unfolding label
  label_is d h b = rw labels_are (go d h b)
    where
      go : (d : ℕ) → 3 ≤ d → d < 3 * (length ts / 3) → get_or (3 ∷ 3 ∷ 3 ∷ map (label_of P) (range 3 (3 * (length ts / 3 - 1)))) d 3
          ≡ label_of P d
      go zero h b = absurd (omega arith)
      go (suc zero) h b = absurd (omega arith)
      go (suc (suc zero)) h b = absurd (omega arith)
      go (suc (suc (suc d))) h b =
          let e : 3 + d ≡ suc (suc (suc d)) = omega arith in
          get_or-map-run (label_of P) 3 (3 * (length ts / 3 - 1)) d 3 (omega arith) ∙ ap (label_of P) e

inner-dart : (d : ℕ) → 0 < tri d → 3 ≤ d
unfolding tri
inner-dart d h = omega arith

dart-inner : (d : ℕ) → 3 ≤ d → 0 < tri d
unfolding tri
dart-inner d h = omega arith

module _ (n : ℕ) (ts : List ℕ) (s : Sphere n (length ts / 3) (org ts) (opp ts)) (exact : length ts ≡ 3 * (2 * n - 4)) where
  -- labels 2, 0, 1 at a dart that has been passed, at the next and at the previous one
  pub passed_labels : (g : ℕ) → g ∈ (peel ts n).passed → (label (labels n ts) g ≡ 2) × (label (labels n ts) (next g) ≡ 0)
      × (label (labels n ts) (prev g) ≡ 1)
  passed_labels g m =
      let i = passed_inner n ts s exact g m in
      let b : g < 3 * (length ts / 3) = omega (arith, i.0) in
      let r = label_rule (peel ts n).passed (passed_once n ts s exact) g m in (
        label_is n ts g (inner-dart g i.1) b ∙ r.0,
        label_is n ts (next g) (inner-dart (next g) (rw (tri-next g) i.1)) (next-below (length ts / 3) g b) ∙ r.1,
        label_is n ts (prev g) (inner-dart (prev g) (rw (tri-prev g) i.1)) (prev-below (length ts / 3) g b) ∙ r.2,
      )

  -- every label is 0, 1 or 2
  pub label-below : (d : ℕ) → 0 < tri d → d < 3 * (length ts / 3) → label_of (peel ts n).passed d < 3
  label-below d h b = go (passed_all n ts s exact (tri d) h (tri-below (length ts / 3) d b))
    where
      go : (g : ℕ) × (g ∈ (peel ts n).passed) × (tri g ≡ tri d) → label_of (peel ts n).passed d < 3
      go q = is q.0 (label_rule (peel ts n).passed (passed_once n ts s exact) q.0 q.1) (corner-cases q.0 d (sym q.2))
        where
          is : (g : ℕ) → (label_of (peel ts n).passed g ≡ 2) × (label_of (peel ts n).passed (next g) ≡ 0)
              × (label_of (peel ts n).passed (prev g) ≡ 1) → (d ≡ g) ⊎ (d ≡ next g) ⊎ (d ≡ prev g)
              → label_of (peel ts n).passed d < 3
          is g l (inl t) = rw (t, l.0) (omega arith)
          is g l (inr (inl t)) = rw (t, l.1) (omega arith)
          is g l (inr (inr t)) = rw (t, l.2) (omega arith)

  pub labels-below : (x : ℕ) → x ∈ labels n ts → x < 3
  labels-below x m =
      let r = Memᴰ.of_map (label_of (peel ts n).passed) (range 3 (3 * (length ts / 3 - 1))) (rw (labels_are n ts) at m) in
      let i = range_in 3 (3 * (length ts / 3 - 1)) r.1 in
      rw (sym r.2) (label-below r.0 (dart-inner r.0 i.0) (omega (arith, i.0, i.1)))

  -- there are as many as document 01 says
  pub labels_exact : length (labels n ts) ≡ labels_length n
  labels_exact = labels_length_lem n ts ∙ omega (arith, s.least)

-- The labels of an accepted mesh keep the rules of a realizer.
pub realizer : (n : ℕ) (ts : List ℕ) → Sphere n (length ts / 3) (org ts) (opp ts) → length ts ≡ 3 * (2 * n - 4)
    → Realizer n (length ts / 3) (org ts) (opp ts) (label (labels n ts)) (outer ts)
realizer n ts s exact =
    realized s (peeling n ts s exact) (label (labels n ts)) (outer ts) (λ g m. passed_labels n ts s exact g (rw (passed_is n ts s exact) m)) (outer0 ts)
    (outer1 ts) (outer2 ts)
