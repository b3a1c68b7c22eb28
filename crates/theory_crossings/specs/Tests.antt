-- What the definitions of colours, corners, walks and paths compute to on a sphere with a realizer. Assumes nothing.
use Prim.Native.Nat.{ℕ, zero, suc, ◌+◌, ◌*◌, ◌/◌, ◌≤◌, ◌<◌}
use Rattle.std.specs.Prelude.{◌≡◌, ◌≢◌, true, false, ◌&&◌, ◌||◌, cond, List, [], ◌∷◌, length}
use Rattle.std.proofs.Math.Path.{refl, sym}
use Rattle.std.proofs.Common.{ap, ◌∙◌, inl, inr, arith, eqb-true, eq-eqb, ne_eqb}
use Rattle.std.proofs.Math.Option.{Option, none, some}
use Rattle.std.proofs.Math.Decide.{ℕ_discrete}
use Rattle.std.proofs.Math.Dec.{eqb}
use Rattle.std.proofs.lemmas.Bool.{eqb-false}
use Rattle.definitions.specs.Lists.{upto, filter, first}
use Rattle.definitions.specs.Mesh.{tri, next, prev, org, tip, opp, darts, outgoing}
use Rattle.definitions.specs.Labels.{outer, label, corner, rim, points}
use Rattle.definitions.specs.Forward.{path, walk}
use Rattle.laws.specs.Lists.{◌∈◌, tested, clash, and_both, or_either, or_neither, or_left, or_right, filter_in, in_filter, upto_in, in_upto, first_or_only}
use Rattle.laws.specs.Lists.{First-in, first_some, first-none}
use Rattle.theory_sphere.specs.Sphere.{Sphere}
use Rattle.theory_sphere.specs.Darts.{corners_in_lem, in_corners, tri-next, tri-prev, next-below, prev-below, tri-below}
use Rattle.theory_realizer.specs.Realizer.{Inner, Rim, Points, inside, along, Realizer}
use Rattle.theory_crossings.specs.Colours.{Named, Apex, label-once, points-below, tip-below, org-below, stays, apex, apex-labels}
use Rattle.theory_crossings.specs.Walks.{Walking}
use Rattle.theory_crossings.specs.Paths.{Pathing}

-- the names of the outer triangle's vertices
pub named : (ts : List ℕ) → Named (org ts) (outer ts)
unfolding outer
named ts = record { v0 = refl; v1 = refl; v2 = refl }

-- ---- the definitions, a step at a time

tip_is : (ts : List ℕ) (d : ℕ) → tip ts d ≡ org ts (next d)
unfolding tip
tip_is ts d = refl

rim_is : (ts ls : List ℕ) (d : ℕ) → rim ts d ≡ (eqb (tri d) 0 || eqb (tri (opp ts d)) 0)
unfolding rim
rim_is ts ls d = refl

points_is : (ts ls : List ℕ) (c d : ℕ) →
    points ts ls c d ≡ cond (rim ts d) (eqb (tip ts d) (outer ts c)) (eqb (label ls (next d)) c && eqb (label ls (opp ts d)) c)
unfolding points
points_is ts ls c d = refl

walk_is : (ts ls : List ℕ) (k t : ℕ) → eqb t 0 ≡ false →
    walk ts ls (suc k) t ≡ next (corner ls t 2) ∷ walk ts ls k (tri (opp ts (next (corner ls t 2))))
unfolding walk
walk_is ts ls k t e = rw (e, walk)

path-ends : (ts ls : List ℕ) (c k i : ℕ) → eqb i (outer ts c) ≡ true → path ts ls c (suc k) i ≡ []
unfolding path
path-ends ts ls c k i e = rw (e, path)

path_is : (ts ls : List ℕ) (c k i d : ℕ) → eqb i (outer ts c) ≡ false → first (points ts ls c) (outgoing ts i) ≡ some d →
    path ts ls c (suc k) i ≡ d ∷ path ts ls c k (tip ts d)
unfolding path
path_is ts ls c k i d e q = rw (e, q, path)

-- ---- the Boolean test of a side's colour agrees with `Points`

-- `Points` of a mesh `ts` with labels `ls`
abbrev pub Towards : List ℕ → List ℕ → ℕ → ℕ → Type 0
Towards ts ls = Points (length ts / 3) (org ts) (opp ts) (label ls) (outer ts)

module _ (ts ls : List ℕ) where
  pub rim-true : (d : ℕ) → d < 3 * (length ts / 3) → rim ts d ≡ true → Rim (length ts / 3) (opp ts) d
  rim-true d h e =
      elim (or_either (eqb (tri d) 0) (eqb (tri (opp ts d)) 0) (sym (rim_is ts ls d) ∙ e)) [
        | inl p ↦ record { below = h; outer = inl (eqb-true (tri d) 0 p) }
        | inr p ↦ record { below = h; outer = inr (eqb-true (tri (opp ts d)) 0 p) }
      ]

  pub rim-false : (d : ℕ) → d < 3 * (length ts / 3) → rim ts d ≡ false → Inner (length ts / 3) (opp ts) d
  rim-false d h e =
      let r = or_neither (eqb (tri d) 0) (eqb (tri (opp ts d)) 0) (sym (rim_is ts ls d) ∙ e) in
      let p : tri d ≢ 0 = eqb-false (tri d) 0 r.0 in
      let q : tri (opp ts d) ≢ 0 = eqb-false (tri (opp ts d)) 0 r.1 in
      record { below = h; this = omega arith; that = omega arith }

  true-rim : (d : ℕ) → Rim (length ts / 3) (opp ts) d → rim ts d ≡ true
  true-rim d r =
      rim_is ts ls d ∙ elim r.outer [
        | inl e ↦ or_left (eqb (tri d) 0) (eqb (tri (opp ts d)) 0) (eq-eqb (tri d) 0 e)
        | inr e ↦ or_right (eqb (tri d) 0) (eqb (tri (opp ts d)) 0) (eq-eqb (tri (opp ts d)) 0 e)
      ]

  pub false-rim : (d : ℕ) → Inner (length ts / 3) (opp ts) d → rim ts d ≡ false
  false-rim d i =
      let p : eqb (tri d) 0 ≡ false = ne_eqb (tri d) 0 (λ e. omega (arith, e, i.this)) in
      let q : eqb (tri (opp ts d)) 0 ≡ false = ne_eqb (tri (opp ts d)) 0 (λ e. omega (arith, e, i.that)) in
      rim_is ts ls d ∙ rw (p, q)

  pub points-true : (c d : ℕ) → d < 3 * (length ts / 3) → points ts ls c d ≡ true → Towards ts ls c d
  points-true c d h e =
      let e' : cond (rim ts d) (eqb (tip ts d) (outer ts c)) (eqb (label ls (next d)) c && eqb (label ls (opp ts d)) c) ≡ true = sym (points_is ts ls c d)
      ∙ e in
      elim (tested (rim ts d)) [
        | inl r ↦ along (rim-true d h r) (sym (tip_is ts d) ∙ eqb-true (tip ts d) (outer ts c) (rw r at e'))
        | inr r ↦
            let k = and_both (eqb (label ls (next d)) c) (eqb (label ls (opp ts d)) c) (rw r at e') in
            inside (rim-false d h r) (eqb-true (label ls (next d)) c k.0) (eqb-true (label ls (opp ts d)) c k.1)
      ]

  pub true-points : (c d : ℕ) → Towards ts ls c d → points ts ls c d ≡ true
  true-points c d (inside i p q) =
      points_is ts ls c d ∙ rw (false-rim d i, eq-eqb (label ls (next d)) c p) (eq-eqb (label ls (opp ts d)) c q)
  true-points c d (along r p) = points_is ts ls c d ∙ rw (true-rim d r) (eq-eqb (tip ts d) (outer ts c) (tip_is ts d ∙ p))

module _ {n : ℕ} (ts ls : List ℕ) (sph : Sphere n (length ts / 3) (org ts) (opp ts)) (whole : length ts ≡ 3 * (length ts / 3))
    (R : Realizer n (length ts / 3) (org ts) (opp ts) (label ls) (outer ts)) where
  -- ---- corners

  -- the corner with label c is the dart with label c
  corner_is : (d : ℕ) → d < 3 * (length ts / 3) → 0 < tri d → corner ls (tri d) (label ls d) ≡ d
  unfolding corner
  corner_is d h z =
      first_or_only (λ e. eqb (label ls e) (label ls d)) (3 * tri d) d (in_corners d) (eq-eqb (label ls d) (label ls d) refl)
      (λ e m p. sym (label-once sph R (named ts) d e h z (sym (corners_in_lem (tri d) m)) (sym (eqb-true (label ls e) (label ls d) p))))

  pub corners_are : (g : ℕ) → Apex (length ts / 3) (label ls) g →
      (corner ls (tri g) 2 ≡ g) × (corner ls (tri g) 0 ≡ next g) × (corner ls (tri g) 1 ≡ prev g)
  corners_are g a =
      let l = apex-labels sph R (named ts) a in
      let at : (d c : ℕ) → d < 3 * (length ts / 3) → tri d ≡ tri g → label ls d ≡ c → corner ls (tri g) c ≡ d =
      λ d c h e q. rw (e, q) at (corner_is d h (omega (arith, e, a.inner))) in (
        at g 2 a.below refl a.two,
        at (next g) 0 (next-below (length ts / 3) g a.below) (tri-next g) l.0,
        at (prev g) 1 (prev-below (length ts / 3) g a.below) (tri-prev g) l.1,
      )

  -- ---- walks

  walk_home : (k : ℕ) → walk ts ls k 0 ≡ []
  unfolding walk
  walk_home zero = refl
  walk_home (suc k) = refl

  walk-over : (k g : ℕ) → Apex (length ts / 3) (label ls) g → walk ts ls (suc k) (tri g) ≡ next g ∷ walk ts ls k (tri (opp ts (next g)))
  walk-over k g a =
      let q : eqb (tri g) 0 ≡ false = ne_eqb (tri g) 0 (λ e. omega (arith, e, a.inner)) in
      walk_is ts ls k (tri g) q ∙ rw (corners_are g a).0

  -- a walk does not depend on its fuel, if there is enough
  walk_same : (k m t : ℕ) → t < length ts / 3 → length ts / 3 ≤ k + R.triangle_rank t → length ts / 3 ≤ m + R.triangle_rank t →
      walk ts ls k t ≡ walk ts ls m t
  walk_same zero m t h p q = absurd (omega (arith, R.triangle_rank_below t h))
  walk_same (suc k) zero t h p q = absurd (omega (arith, R.triangle_rank_below t h))
  walk_same (suc k) (suc m) t h p q =
      elim (ℕ_discrete t 0) [
        | yes e ↦ rw e (walk_home (suc k) ∙ sym (walk_home (suc m)))
        | no e ↦
            let c = apex sph R (named ts) t (omega arith) h in
            let g = c.0 in
            let a = c.2 in
            let r = R.triangle_rank_rises g a.below a.inner a.two in
            let s = ap R.triangle_rank c.1 in
            let b = tri-below (length ts / 3) (opp ts (next g)) (sph.dart (next g) (next-below (length ts / 3) g a.below)) in
            let ih = walk_same k m (tri (opp ts (next g))) b (omega (arith, r, s)) (omega (arith, r, s)) in
            rw (← c.1) (walk-over k g a ∙ ap (λ (ds : List ℕ). next g ∷ ds) ih ∙ sym (walk-over m g a))
      ]

  -- The fuel of the definition is enough: more of it changes no walk.
  pub walk_enough : (k t : ℕ) → t < length ts / 3 → length ts / 3 ≤ k → walk ts ls k t ≡ walk ts ls (length ts / 3) t
  walk_enough k t h l = walk_same k (length ts / 3) t h (omega arith) (omega arith)

  pub walking : Walking (length ts / 3) (opp ts) (label ls) (walk ts ls (length ts / 3))
  walking =
      record {
        home = walk_home (length ts / 3);
        over =
            λ g a.
            let t = tri-below (length ts / 3) g a.below in
            let b = tri-below (length ts / 3) (opp ts (next g)) (sph.dart (next g) (next-below (length ts / 3) g a.below)) in
            let r = R.triangle_rank_rises g a.below a.inner a.two in
            let more = walk_same (length ts / 3) (suc (length ts / 3)) (tri g) t (omega arith) (omega arith) in
            more ∙ walk-over (length ts / 3) g a;
      }

  -- ---- paths

  outgoing_is : (i : ℕ) → outgoing ts i ≡ filter (λ d. eqb (org ts d) i) (upto (length ts))
  unfolding outgoing darts
  outgoing_is i = refl

  in_outgoing : (d : ℕ) → d < 3 * (length ts / 3) → d ∈ outgoing ts (org ts d)
  in_outgoing d h =
      rw (outgoing_is (org ts d)) (in_filter (λ e. eqb (org ts e) (org ts d)) (in_upto (length ts) d (omega arith)) (eq-eqb (org ts d) (org ts d) refl))

  outgoing_in : (i d : ℕ) → d ∈ outgoing ts i → (d < 3 * (length ts / 3)) × (org ts d ≡ i)
  outgoing_in i d m =
      let k = filter_in (λ e. eqb (org ts e) i) (upto (length ts)) (rw (outgoing_is i) at m) in
      (omega (arith, upto_in (length ts) k.0), eqb-true (org ts d) i k.1)

  -- the side of colour c that points away is found
  found : (c : ℕ) → c < 3 → (d : ℕ) → Towards ts ls c d → first (points ts ls c) (outgoing ts (org ts d)) ≡ some d
  found c l d p = go (first (points ts ls c) (outgoing ts (org ts d))) refl
    where
      go : (o : Option ℕ) → first (points ts ls c) (outgoing ts (org ts d)) ≡ o → first (points ts ls c) (outgoing ts (org ts d)) ≡ some d
      go none e =
          let f = first-none (points ts ls c) (outgoing ts (org ts d)) e (in_outgoing d (points-below sph R (named ts) p)) in
          clash (true-points ts ls c d p) f
      go (some a) e =
          let f = first_some (points ts ls c) (outgoing ts (org ts d)) a e in
          let m = outgoing_in (org ts d) a (First-in (points ts ls c) f) in
          e ∙ ap some (R.only c l a d (points-true ts ls c a m.0 f.passes) p m.1)

  path-onward : (c k d : ℕ) → c < 2 → Towards ts ls c d → path ts ls c (suc k) (org ts d) ≡ d ∷ path ts ls c k (org ts (next d))
  path-onward c k d l p =
      let q = ne_eqb (org ts d) (outer ts c) (stays sph R (named ts) c l p) in
      path_is ts ls c k (org ts d) d q (found c (omega arith) d p) ∙ rw (tip_is ts d)

  path-over : (c k : ℕ) → path ts ls c k (outer ts c) ≡ []
  unfolding path
  path-over c zero = refl
  path-over c (suc k) = path-ends ts ls c k (outer ts c) (eq-eqb (outer ts c) (outer ts c) refl)

  -- a path does not depend on its fuel, if there is enough
  path-same : (c : ℕ) → c < 2 → (k m i : ℕ) → i < n → n ≤ k + R.rank c i → n ≤ m + R.rank c i → path ts ls c k i ≡ path ts ls c m i
  path-same c l zero m i h p q = absurd (omega (arith, R.rank_below c i h))
  path-same c l (suc k) zero i h p q = absurd (omega (arith, R.rank_below c i h))
  path-same c l (suc k) (suc m) i h p q =
      elim (ℕ_discrete i (outer ts c)) [
        | yes e ↦ rw e (path-over c (suc k) ∙ sym (path-over c (suc m)))
        | no e ↦
            let o = R.out c (omega arith) i h e in
            let d = o.0 in
            let r = R.rank_rises c l d o.2 in
            let s = ap (R.rank c) o.1 in
            let ih = path-same c l k m (org ts (next d)) (tip-below sph R (named ts) o.2) (omega (arith, r, s)) (omega (arith, r, s)) in
            rw (← o.1) (path-onward c k d l o.2 ∙ ap (λ (ds : List ℕ). d ∷ ds) ih ∙ sym (path-onward c m d l o.2))
      ]

  -- n is enough fuel: more of it changes no path of colour 0 or 1.
  pub path_enough : (c : ℕ) → c < 2 → (k i : ℕ) → i < n → n ≤ k → path ts ls c k i ≡ path ts ls c n i
  path_enough c l k i h m = path-same c l k n i h (omega arith) (omega arith)

  pub pathing : Pathing (length ts / 3) (org ts) (opp ts) (label ls) (outer ts) (λ c i. path ts ls c n i)
  pathing =
      record {
        over = λ c. path-over c n;
        onward =
            λ c l d p.
            path-same c l n (suc n) (org ts d) (org-below sph R (named ts) p) (omega arith) (omega arith) ∙ path-onward c n d l p;
      }
