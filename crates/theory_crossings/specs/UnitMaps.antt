-- The maps of unit weights: the record `Units` from a sphere and a realizer. Assumes nothing.
use Prim.Native.Nat.{ℕ, zero, suc, ◌+◌, ◌-◌, ◌*◌, ◌/◌, ◌≤◌, ◌<◌}
use Rattle.std.specs.Prelude.{◌≡◌, ◌⊎◌, Bool, ◌||◌, eqb, length}
use Rattle.std.proofs.Math.Path.{refl, ap}
use Rattle.std.proofs.Common.{sym, ◌∙◌, inl, inr}
use Rattle.std.proofs.Math.Bool.{true, false}
use mathlib.Core.List.Memᴰ
use mathlib.Core.List.{List, [], ◌∷◌}
use native.Mathlib.Omega.{arith}
use Rattle.definitions.specs.Lists.{any}
use Rattle.definitions.specs.Mesh.{tri, next, prev, org, opp}
use Rattle.definitions.specs.Labels.{outer, label, corner}
use Rattle.definitions.specs.Forward.{path, walk, share_side, crosses}
use Rattle.laws.specs.Lists.{◌∈◌, tested, any-true, any_false}
use Rattle.theory_sphere.specs.Sphere.{Sphere}
use Rattle.theory_sphere.specs.Darts.{next-below, prev-below}
use Rattle.theory_realizer.specs.Realizer.{Realizer}
use Rattle.theory_realizer.specs.Units.{bit, unit0, unit1, vertex_at, same?, Units}
use Rattle.theory_crossings.specs.Colours.{Apex, outer_below, apex}
use Rattle.theory_crossings.specs.Walks.{near, hits}
use Rattle.theory_crossings.specs.Paths.{crossed, at_v0, at_v1, at_v2, last, met-once, met-corners}
use Rattle.theory_crossings.specs.Tests.{named, corners_are, walking, pathing}

-- ---- the test whether a walk crosses a path, and how often it does

module _ (opp : ℕ → ℕ) where
  abbrev touch : ℕ → ℕ → Bool
  touch d e = eqb d e || eqb d (opp e)

  near_is : (d e : ℕ) (t : Bool) → touch d e ≡ t → near opp d e ≡ bit t
  unfolding near
  near_is d e t q = ap bit q

  hits_in : (e : ℕ) {d : ℕ} {ds : List ℕ} → d ∈ ds → touch d e ≡ true → 1 ≤ hits opp ds e
  unfolding hits
  hits_in e (Memᴰ.head {x = a} q) t = omega (arith, near_is a e true (ap (λ (z : ℕ). touch z e) (sym q) ∙ t))
  hits_in e (Memᴰ.tail m) t = omega (arith, hits_in e m t)

  hits-none : (e : ℕ) (ds : List ℕ) → ((d : ℕ) → d ∈ ds → touch d e ≡ false) → hits opp ds e ≡ 0
  unfolding hits
  hits-none e [] h = refl
  hits-none e (d ∷ ds) h = omega (arith, near_is d e false (h d (Memᴰ.head refl)), hits-none e ds (λ a m. h a (Memᴰ.tail m)))

  crossed_in : (ds : List ℕ) {e : ℕ} {es : List ℕ} → e ∈ es → hits opp ds e ≤ crossed opp ds es
  unfolding crossed
  crossed_in ds (Memᴰ.head q) = omega (arith, ap (hits opp ds) q)
  crossed_in ds (Memᴰ.tail m) = omega (arith, crossed_in ds m)

  crossed-none : (ds es : List ℕ) → ((e : ℕ) → e ∈ es → hits opp ds e ≡ 0) → crossed opp ds es ≡ 0
  unfolding crossed
  crossed-none ds [] h = refl
  crossed-none ds (e ∷ es) h = omega (arith, h e (Memᴰ.head refl), crossed-none ds es (λ a m. h a (Memᴰ.tail m)))

meet_is : (ts ds es : List ℕ) → share_side ts ds es ≡ any (λ d. any (touch (opp ts) d) es) ds
unfolding share_side
meet_is ts ds es = refl

-- a walk that crosses a path at most once
meet_once : (ts ds es : List ℕ) → crossed (opp ts) ds es ≤ 1 → bit (share_side ts ds es) ≡ crossed (opp ts) ds es
meet_once ts ds es h = go (tested (share_side ts ds es))
  where
    inner : ℕ → Bool
    inner d = any (touch (opp ts) d) es

    go : (share_side ts ds es ≡ true) ⊎ (share_side ts ds es ≡ false) → bit (share_side ts ds es) ≡ crossed (opp ts) ds es
    go (inl e) =
        let a = any-true inner ds (sym (meet_is ts ds es) ∙ e) in
        let b = any-true (touch (opp ts) a.0) es a.2 in
        omega (arith, ap bit e, hits_in (opp ts) b.0 a.1 b.2, crossed_in (opp ts) ds b.1)
    go (inr e) =
        let q : any inner ds ≡ false = sym (meet_is ts ds es) ∙ e in
        let none =
        crossed-none (opp ts) ds es (λ c m. hits-none (opp ts) c ds (λ d k. any_false (touch (opp ts) d) es (any_false inner ds q k) m)) in
        omega (arith, ap bit e, none)

module _ {n : ℕ} (ts ls : List ℕ) (sph : Sphere n (length ts / 3) (org ts) (opp ts)) (whole : length ts ≡ 3 * (length ts / 3))
    (R : Realizer n (length ts / 3) (org ts) (opp ts) (label ls) (outer ts)) where
  -- how often the walk of u crosses the colour-c path of i
  abbrev pub met : ℕ → ℕ → ℕ → ℕ
  met c u i = crossed (opp ts) (walk ts ls (length ts / 3) u) (path ts ls c n i)

  crosses_is : (c i u : ℕ) → crosses n ts ls c i u ≡ share_side ts (walk ts ls (length ts / 3) u) (path ts ls c n i)
  unfolding crosses
  crosses_is c i u = refl

  -- the definition counts a triangle once, and that is how often it is met
  pub crosses-once : (u i : ℕ) → 0 < u → u < length ts / 3 → i < n → (unit0 n ts ls u i ≡ met 1 u i) × (unit1 n ts ls u i ≡ met 0 u i)
  crosses-once u i z h k =
      let once = met-once sph R (named ts) (walk ts ls (length ts / 3)) (walking ts ls sph whole R) (λ c i. path ts ls c n i)
      (pathing ts ls sph whole R) u z h i k in (
        ap bit (crosses_is 1 i u) ∙ meet_once ts (walk ts ls (length ts / 3) u) (path ts ls 1 n i) (omega (arith, once)),
        ap bit (crosses_is 0 i u) ∙ meet_once ts (walk ts ls (length ts / 3) u) (path ts ls 0 n i) (omega (arith, once)),
      )

  -- the corners of triangle t
  pub record At (t : ℕ) : Type 0 where
    pub g : ℕ
    pub tri_is : tri g ≡ t
    pub two : Apex (length ts / 3) (label ls) g
    pub corner2 : corner ls t 2 ≡ g
    pub corner0 : corner ls t 0 ≡ next g
    pub corner1 : corner ls t 1 ≡ prev g

  pub at : (t : ℕ) → 0 < t → t < length ts / 3 → At t
  at t z h =
      let a = apex sph R (named ts) t z h in
      let c = corners_are ts ls sph whole R a.0 a.2 in
      let e = a.1 in
      record {
        g = a.0;
        tri_is = e;
        two = a.2;
        corner2 = ap (λ (t : ℕ). corner ls t 2) (sym e) ∙ c.0;
        corner0 = ap (λ (t : ℕ). corner ls t 0) (sym e) ∙ c.1;
        corner1 = ap (λ (t : ℕ). corner ls t 1) (sym e) ∙ c.2;
      }

  -- the unit map of u at a corner
  unit-at : (u t c d : ℕ) → 0 < u → u < length ts / 3 → d < 3 * (length ts / 3) → corner ls t c ≡ d →
      (unit0 n ts ls u (vertex_at ts ls t c) ≡ met 1 u (org ts d)) × (unit1 n ts ls u (vertex_at ts ls t c) ≡ met 0 u (org ts d))
  unit-at u t c d z h k e = rw e (crosses-once u (org ts d) z h (sph.vertex d k))

  -- CORNERS, for the definition's unit maps
  record Ordered (u t : ℕ) : Type 0 where
    o01 : unit0 n ts ls u (vertex_at ts ls t 1) + same? t u ≤ unit0 n ts ls u (vertex_at ts ls t 0)
    o02 : unit0 n ts ls u (vertex_at ts ls t 2) + same? t u ≤ unit0 n ts ls u (vertex_at ts ls t 0)
    o10 : unit1 n ts ls u (vertex_at ts ls t 0) + same? t u ≤ unit1 n ts ls u (vertex_at ts ls t 1)
    o12 : unit1 n ts ls u (vertex_at ts ls t 2) + same? t u ≤ unit1 n ts ls u (vertex_at ts ls t 1)
    o20 : unit0 n ts ls u (vertex_at ts ls t 2) + unit1 n ts ls u (vertex_at ts ls t 2) + same? t u
        ≤ unit0 n ts ls u (vertex_at ts ls t 0) + unit1 n ts ls u (vertex_at ts ls t 0)
    o21 : unit0 n ts ls u (vertex_at ts ls t 2) + unit1 n ts ls u (vertex_at ts ls t 2) + same? t u
        ≤ unit0 n ts ls u (vertex_at ts ls t 1) + unit1 n ts ls u (vertex_at ts ls t 1)

  ordered : (u t : ℕ) → 0 < u → u < length ts / 3 → 0 < t → t < length ts / 3 → Ordered u t
  ordered u t z h z' h' =
      let a = at t z' h' in
      let b = a.two.below in
      let p2 = unit-at u t 2 a.g z h b a.corner2 in
      let p0 = unit-at u t 0 (next a.g) z h (next-below (length ts / 3) a.g b) a.corner0 in
      let p1 = unit-at u t 1 (prev a.g) z h (prev-below (length ts / 3) a.g b) a.corner1 in
      let c = met-corners sph R (named ts) (walk ts ls (length ts / 3)) (walking ts ls sph whole R) (λ c i. path ts ls c n i)
      (pathing ts ls sph whole R) u z h a.g a.two in
      let w = ap (λ (t : ℕ). bit (eqb t u)) a.tri_is in
      omega arith

  -- each field of `Units`
  corner-below : (t c : ℕ) → 0 < t → t < length ts / 3 → c < 3 → vertex_at ts ls t c < n
  corner-below t zero z h l =
      let a = at t z h in
      rw a.corner0 (sph.vertex (next a.g) (next-below (length ts / 3) a.g a.two.below))
  corner-below t (suc zero) z h l =
      let a = at t z h in
      rw a.corner1 (sph.vertex (prev a.g) (prev-below (length ts / 3) a.g a.two.below))
  corner-below t (suc (suc zero)) z h l = let a = at t z h in rw a.corner2 (sph.vertex a.g a.two.below)
  corner-below t (suc (suc (suc c))) z h l = absurd (omega arith)

  most0_is : (u t c : ℕ) → Ordered u t → 0 < c → c < 3 → unit0 n ts ls u (vertex_at ts ls t c) + same? t u ≤ unit0 n ts ls u (vertex_at ts ls t 0)
  most0_is u t zero o z l = absurd (omega arith)
  most0_is u t (suc zero) o z l = o.o01
  most0_is u t (suc (suc zero)) o z l = o.o02
  most0_is u t (suc (suc (suc c))) o z l = absurd (omega arith)

  most1_is : (u t c : ℕ) → Ordered u t → c < 3 → (c ≡ 1 → ⊥) →
      unit1 n ts ls u (vertex_at ts ls t c) + same? t u ≤ unit1 n ts ls u (vertex_at ts ls t 1)
  most1_is u t zero o l q = o.o10
  most1_is u t (suc zero) o l q = absurd (q refl)
  most1_is u t (suc (suc zero)) o l q = o.o12
  most1_is u t (suc (suc (suc c))) o l q = absurd (omega arith)

  most2_is : (u t c : ℕ) → Ordered u t → c < 2 →
      unit0 n ts ls u (vertex_at ts ls t 2) + unit1 n ts ls u (vertex_at ts ls t 2) + same? t u
      ≤ unit0 n ts ls u (vertex_at ts ls t c) + unit1 n ts ls u (vertex_at ts ls t c)
  most2_is u t zero o l = o.o20
  most2_is u t (suc zero) o l = o.o21
  most2_is u t (suc (suc c)) o l = absurd (omega arith)

  -- at the outer vertices
  rims : (u : ℕ) → 0 < u → u < length ts / 3 →
      ((unit0 n ts ls u (outer ts 0) ≡ 1) × (unit1 n ts ls u (outer ts 0) ≡ 0))
      × ((unit0 n ts ls u (outer ts 1) ≡ 0) × (unit1 n ts ls u (outer ts 1) ≡ 1))
      × ((unit0 n ts ls u (outer ts 2) ≡ 0) × (unit1 n ts ls u (outer ts 2) ≡ 0))
  unfolding outer
  rims u z h =
      let l = outer_below sph R (named ts) in
      let o0 = crosses-once u (org ts 0) z h (sph.vertex 0 (omega arith)) in
      let o1 = crosses-once u (org ts 2) z h (sph.vertex 2 l) in
      let o2 = crosses-once u (org ts 1) z h (sph.vertex 1 (omega arith)) in
      let W = walk ts ls (length ts / 3) in
      let P : ℕ → ℕ → List ℕ = λ c i. path ts ls c n i in
      let m0 = at_v0 sph R (named ts) W (walking ts ls sph whole R) P (pathing ts ls sph whole R) u z h in
      let m1 = at_v1 sph R (named ts) W (walking ts ls sph whole R) P (pathing ts ls sph whole R) u z h in
      let m2 = at_v2 sph R (named ts) W (walking ts ls sph whole R) P (pathing ts ls sph whole R) u z h in
      let one = last sph R (named ts) W (walking ts ls sph whole R) P (pathing ts ls sph whole R) u z h in
      omega arith

-- The unit maps of a sphere with a realizer.
pub units : {n : ℕ} (ts ls : List ℕ) → Sphere n (length ts / 3) (org ts) (opp ts) → length ts ≡ 3 * (2 * n - 4) →
    Realizer n (length ts / 3) (org ts) (opp ts) (label ls) (outer ts) → Units n ts ls
units {n} ts ls sph size R =
    let whole : length ts ≡ 3 * (length ts / 3) = omega arith in
    record {
      below = corner-below ts ls sph whole R;
      inside =
          λ u i z h k.
          let once = crosses-once ts ls sph whole R u i z h k in
          omega (
            arith,
            once,
            met-once sph R (named ts) (walk ts ls (length ts / 3)) (walking ts ls sph whole R) (λ c i. path ts ls c n i)
                (pathing ts ls sph whole R) u z h i k,
          );
      most0 = λ u t c z h z' h' k l. most0_is ts ls sph whole R u t c (ordered ts ls sph whole R u t z h z' h') k l;
      most1 = λ u t c z h z' h' k q. most1_is ts ls sph whole R u t c (ordered ts ls sph whole R u t z h z' h') k q;
      most2 = λ u t c z h z' h' k. most2_is ts ls sph whole R u t c (ordered ts ls sph whole R u t z h z' h') k;
      rim0 = λ u z h. (rims ts ls sph whole R u z h).0;
      rim1 = λ u z h. (rims ts ls sph whole R u z h).1;
      rim2 = λ u z h. (rims ts ls sph whole R u z h).2;
    }
