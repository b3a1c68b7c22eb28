-- How often the colour-2 walk of one inner triangle u crosses the paths of vertices: this solves the equations of the trace, and so is 0 or 1, keeps the
-- order of a triangle's corners, and has the outer vertices at their corners. Assumes nothing.
-- Walks and paths are given here as functions that satisfy their equations; that the definition's do is in `Tests`.
use Rattle.std.specs.Prelude.{ℕ, ◌+◌, ◌*◌, ◌≤◌, ◌<◌, ◌≡◌, List, [], ◌∷◌, eqb}
use Rattle.std.proofs.Math.Path.{refl, sym, ap}
use Rattle.std.proofs.Common.{◌∙◌, arith}
use Rattle.std.proofs.Math.Decide.{ℕ_discrete}
use Rattle.definitions.specs.Mesh.{tri, next, prev}
use Rattle.laws.specs.Every.{Every, every_split, every_in}
use Rattle.theory_sphere.specs.Sphere.{Sphere}
use Rattle.theory_sphere.specs.Darts.{next-below, prev-below}
use Rattle.theory_realizer.specs.Trace.{Fan, end, more, edge, Trace, done, step, fans}
use Rattle.theory_realizer.specs.Realizer.{Points, Middle, Coloured, Realizer}
use Rattle.theory_realizer.specs.Units.{bit}
use Rattle.theory_sphere.specs.Rotations.{tip-opp}
use Rattle.theory_crossings.specs.Gaps.{Feeds, Solves, Corner, all-corners, all-inside}
use Rattle.theory_crossings.specs.Colours.{Named, Apex, Fanning, outer_below, from_v1_to_v0, from_v0_to_v1, from_v2_to_v0, from_v2_to_v1, heads}
use Rattle.theory_crossings.specs.Colours.{all_fanning, fan-apex, apex_passed}
use Rattle.theory_crossings.specs.Walks.{hits, Walking, hits-side, flow, outside, colour_two, last-side}

-- how many pairs of a dart of the first list and one of the second run along one side
unfoldable pub crossed : (ℕ → ℕ) → List ℕ → List ℕ → ℕ
crossed opp ds [] = 0
crossed opp ds (e ∷ es) = hits opp ds e + crossed opp ds es

-- The path of v_c is over. That of another vertex goes by its side of colour c, and goes on as that of the vertex it comes to.
pub record Pathing (T : ℕ) (org opp label v : ℕ → ℕ) (P : ℕ → ℕ → List ℕ) : Type 0 where
  pub over : (c : ℕ) → P c (v c) ≡ []
  pub onward : (c : ℕ) → c < 2 → (d : ℕ) → Points T org opp label v c d → P c (org d) ≡ d ∷ P c (org (next d))

module _ {n T : ℕ} {org opp label v : ℕ → ℕ} (sph : Sphere n T org opp) (R : Realizer n T org opp label v) (named : Named org v)
    (W : ℕ → List ℕ) (walking : Walking T opp label W) (P : ℕ → ℕ → List ℕ) (pathing : Pathing T org opp label v P) (u : ℕ) (inner : 0 < u)
    (below : u < T) where
  -- how often u's walk crosses the side of d, the weights 1 on u, and how often u's walk meets the colour-c path of i
  abbrev x : ℕ → ℕ
  x d = hits opp (W u) d

  abbrev w : ℕ → ℕ
  w g = bit (eqb (tri g) u)

  abbrev b : ℕ → ℕ → ℕ
  b c i = crossed opp (W u) (P c i)

  -- a path's side is one step of it
  pub meets-over : (c : ℕ) → b c (v c) ≡ 0
  unfolding crossed
  meets-over c = rw (pathing.over c)

  pub meets-onward : (c : ℕ) → c < 2 → (d : ℕ) → Points T org opp label v c d → b c (org d) ≡ x d + b c (org (next d))
  unfolding crossed
  meets-onward c l d p = rw (pathing.onward c l d p)

  x_side : (d : ℕ) → d < 3 * T → x (opp d) ≡ x d
  x_side d h = hits-side sph R named (W u) d h

  -- ---- the equations of the trace

  feeds : {last g : ℕ} {gs : List ℕ} (f : Fan T org opp last g gs) (a c : ℕ) → x g ≡ a → x last ≡ c → Every (Fanning T org opp label v) gs →
      Middle T org opp label v gs → Feeds T org opp x w (b 1) (b 0) a c f
  unfolding edge
  feeds (end {g} h q) a c ea ec k m =
      let fl = flow sph R named W walking g (fan-apex sph R named k.0) u below in
      omega (arith, fl, ea, ec, x_side (next g) (next-below T g h), x_side (prev g) (prev-below T g h), ap x q)
  feeds (more {g} h f) a c ea ec k m =
      let fl = flow sph R named W walking g (fan-apex sph R named k.0) u below in
      let p = heads sph R named f m in
      let side = x_side (prev g) (prev-below T g h) in
      let none : x (opp (prev g)) ≡ 0 =
      sym (x_side (opp (prev g)) (sph.dart (prev g) (prev-below T g h))) ∙ colour_two sph R named W walking p.0 u below in
      (omega (arith, fl, ea, x_side (next g) (next-below T g h), side, none), feeds f 0 c none ec k.1 p.1)

  -- at the outer vertices
  pub at_v0 : (b 0 (org 0) ≡ 0) × (b 1 (org 0) ≡ x 2)
  unfolding next
  at_v0 =
      let h = outer_below sph R named in
      let on = meets-onward 1 (omega arith) (opp 2) (from_v0_to_v1 sph R named) in
      let from = ap (b 1) (sph.reverses 2 h) in
      let to = ap (b 1) (tip-opp sph 2 h ∙ sym named.v1) in
      (ap (b 0) (sym named.v0) ∙ meets-over 0, omega (arith, on, from, to, meets-over 1, x_side 2 h))

  pub at_v1 : (b 0 (org 2) ≡ x 2) × (b 1 (org 2) ≡ 0)
  unfolding next
  at_v1 = (omega (arith, meets-onward 0 (omega arith) 2 (from_v1_to_v0 sph R named), at_v0), ap (b 1) (sym named.v1) ∙ meets-over 1)

  pub at_v2 : (b 0 (org 1) ≡ 0) × (b 1 (org 1) ≡ 0)
  unfolding next tri
  at_v2 =
      let h : 0 < 3 * T = omega (arith, outer_below sph R named) in
      let on = meets-onward 0 (omega arith) (opp 0) (from_v2_to_v0 sph R named) in
      let from = ap (b 0) (sph.reverses 0 h) in
      let to = ap (b 0) (tip-opp sph 0 h) in
      let none0 = outside sph R named W walking 0 h refl (λ e. omega arith) u below in
      let none1 = outside sph R named W walking 1 (omega (arith, outer_below sph R named)) refl (λ e. omega arith) u below in
      (omega (arith, on, from, to, at_v0, none0, x_side 0 h), omega (arith, meets-onward 1 (omega arith) 1 (from_v2_to_v1 sph R named), at_v1, none1))

  solves : {C : List ℕ} (tr : Trace T org opp C) → Coloured T org opp label v tr → Every (Fanning T org opp label v) (fans T org opp tr) →
      Solves T org opp x w (b 1) (b 0) tr
  unfolding fans
  solves done k f = (at_v0.0, at_v1.1, at_v1.0, at_v0.1)
  solves (step e e' gs h o f s tr) k fs =
      let split = every_split (Fanning T org opp label v) gs (fans T org opp tr) fs in
      let left = meets-onward 0 (omega arith) e k.0 in
      let right = meets-onward 1 (omega arith) (opp e') k.1 in
      let from = ap (b 1) (sph.reverses e' h ∙ sym o) in
      let to = ap (b 1) (tip-opp sph e' h) in (
        omega (arith, left),
        omega (arith, right, from, to, x_side e' h),
        feeds f (x e) (x e') refl (x_side e' h) split.0 k.2,
        solves tr k.3 split.1,
      )

  -- The crossings of u's walk solve the system of the realizer's trace.
  whole : Solves T org opp x w (b 1) (b 0) R.trace
  whole = solves R.trace R.colours (all_fanning sph R named R.trace R.colours)

  -- ---- what follows

  -- N is 1
  pub last : x 2 ≡ 1
  last = last-side sph R named W walking u inner below

  -- no vertex's two paths are met more than once together
  pub met-once : (i : ℕ) → i < n → b 1 i + b 0 i ≤ 1
  met-once i h =
      elim (ℕ_discrete i (v 0)) [
        | yes e ↦ omega (arith, at_v0, ap (b 0) (e ∙ named.v0), ap (b 1) (e ∙ named.v0), last)
        | no p ↦
            elim (ℕ_discrete i (v 1)) [
              | yes e ↦ omega (arith, at_v1, ap (b 0) (e ∙ named.v1), ap (b 1) (e ∙ named.v1), last)
              | no q ↦
                  let k = every_in (λ i. b 1 i + b 0 i ≤ x 2) (all-inside sph x w (b 1) (b 0) R.trace whole) (R.leaves i h p q) in
                  omega (arith, k, last)
            ]
      ]

  -- the corners of an inner triangle
  pub met-corners : (g : ℕ) → Apex T label g → Corner T org opp x w (b 1) (b 0) g
  met-corners g a =
      every_in (Corner T org opp x w (b 1) (b 0)) (all-corners sph x w (b 1) (b 0) R.trace whole) (apex_passed sph R named a)
