-- How often the colour-2 walk of a triangle crosses a side. Assumes nothing.
-- A walk is given here as a function W that satisfies the equations of walks; that the definition's walks do is in `Tests`.
use Rattle.std.specs.Prelude.{ℕ, zero, suc, ◌+◌, ◌*◌, ◌≤◌, ◌<◌, ◌≡◌, ◌≢◌, ◌||◌, eqb}
use Rattle.std.proofs.Math.Path.{refl, sym, ap}
use Rattle.std.proofs.Common.{◌∙◌, subst}
use Rattle.std.proofs.Math.Logic.{inl, inr}
use mathlib.Core.List.{List, [], ◌∷◌}
use native.Mathlib.Omega.{arith}
use Rattle.std.proofs.Math.Decide.{ℕ_discrete}
use borrow.Author.Tests.{eq-eqb, ne_eqb}
use Rattle.definitions.specs.Mesh.{tri, next, prev}
use Rattle.laws.specs.Lists.{or_right}
use Rattle.theory_sphere.specs.Sphere.{Sphere}
use Rattle.theory_sphere.specs.Darts.{tri-next, tri-prev, next-next, next-other, prev-other, same-tri, next-below, prev-below, tri-below}
use Rattle.theory_realizer.specs.Realizer.{Points, inside, along, Realizer}
use Rattle.theory_realizer.specs.Units.{bit}
use Rattle.theory_crossings.specs.Colours.{Named, Apex, outer_below, rim-two, rim_two', apex, apex_only, apex-labels, exit}

module _ (opp : ℕ → ℕ) where
  -- 1 where d runs along the side of e, either way
  unfoldable pub near : ℕ → ℕ → ℕ
  near d e = bit (eqb d e || eqb d (opp e))

  pub near_same : (d e : ℕ) → d ≡ e → near d e ≡ 1
  unfolding near
  near_same d e q = rw (eq-eqb d e q)

  pub near-across : (d e : ℕ) → d ≡ opp e → near d e ≡ 1
  unfolding near
  near-across d e q = ap bit (or_right (eqb d e) (eqb d (opp e)) (eq-eqb d (opp e) q))

  pub near_none : (d e : ℕ) → d ≢ e → d ≢ opp e → near d e ≡ 0
  unfolding near
  near_none d e p q = rw (ne_eqb d e p, ne_eqb d (opp e) q)

  -- how many of a list's darts run along the side of e
  unfoldable pub hits : List ℕ → ℕ → ℕ
  hits [] e = 0
  hits (d ∷ ds) e = near d e + hits ds e

-- The walk of the outer triangle is over. That of an inner one crosses the side opposite its corner 2, and goes on as the next triangle's.
pub record Walking (T : ℕ) (opp label : ℕ → ℕ) (W : ℕ → List ℕ) : Type 0 where
  pub home : W 0 ≡ []
  pub over : (g : ℕ) → Apex T label g → W (tri g) ≡ next g ∷ W (tri (opp (next g)))

module _ {n T : ℕ} {org opp label v : ℕ → ℕ} (sph : Sphere n T org opp) (R : Realizer n T org opp label v) (named : Named org v) where
  -- ---- induction along walks, from the outer triangle back

  -- a walk's triangles come in the order of `triangle_rank`
  rises : (g : ℕ) → Apex T label g → R.triangle_rank (tri g) < R.triangle_rank (tri (opp (next g)))
  rises g a = R.triangle_rank_rises g a.below a.inner a.two

  opp-below : (g : ℕ) → Apex T label g → opp (next g) < 3 * T
  opp-below g a = sph.dart (next g) (next-below T g a.below)

  walk_ind' : (P : ℕ → Type 0) → P 0 → ((g : ℕ) → Apex T label g → P (tri (opp (next g))) → P (tri g)) →
      (k t : ℕ) → t < T → T ≤ k + R.triangle_rank t → P t
  walk_ind' P z s zero t h f = absurd (omega (arith, R.triangle_rank_below t h))
  walk_ind' P z s (suc k) t h f =
      elim (ℕ_discrete t 0) [
        | yes e ↦ subst P (sym e) z
        | no e ↦
            let c = apex sph R named t (omega arith) h in
            let g = c.0 in
            let r : T ≤ k + R.triangle_rank (tri (opp (next g))) = omega (arith, rises g c.2, ap R.triangle_rank c.1) in
            subst P c.1 (s g c.2 (walk_ind' P z s k (tri (opp (next g))) (tri-below T (opp (next g)) (opp-below g c.2)) r))
      ]

  -- what holds of the outer triangle, and passes from the next triangle of a walk back to the one before, holds of every triangle
  pub walk_ind : (P : ℕ → Type 0) → P 0 → ((g : ℕ) → Apex T label g → P (tri (opp (next g))) → P (tri g)) → (t : ℕ) → t < T → P t
  walk_ind P z s t h = walk_ind' P z s T t h (omega arith)

  near-side : (d e : ℕ) → e < 3 * T → near opp d (opp e) ≡ near opp d e
  near-side d e h =
      elim (ℕ_discrete d e) [
        | yes p ↦ near-across opp d (opp e) (p ∙ sym (sph.twice e h)) ∙ sym (near_same opp d e p)
        | no p ↦
            elim (ℕ_discrete d (opp e)) [
              | yes q ↦ near_same opp d (opp e) q ∙ sym (near-across opp d e q)
              | no q ↦ near_none opp d (opp e) q (λ r. p (r ∙ sph.twice e h)) ∙ sym (near_none opp d e p q)
            ]
      ]

  -- a side's two darts are crossed alike
  pub hits-side : (ds : List ℕ) (e : ℕ) → e < 3 * T → hits opp ds (opp e) ≡ hits opp ds e
  unfolding hits
  hits-side [] e h = refl
  hits-side (d ∷ ds) e h = omega (arith, near-side d e h, hits-side ds e h)

  -- two triangles never walk into each other, and none into itself
  no_return : (g k : ℕ) → Apex T label g → Apex T label k → tri (opp (next k)) ≡ tri g → tri (opp (next g)) ≢ tri k
  no_return g k a b e q = omega (arith, rises g a, rises k b, ap R.triangle_rank e, ap R.triangle_rank q)

  no_loop : (g : ℕ) → Apex T label g → tri (opp (next g)) ≢ tri g
  no_loop g a q = omega (arith, rises g a, ap R.triangle_rank q)

  -- ---- one step of a walk, seen from the triangle of g

  -- where the dart next k leads to, if it runs along another dart's side
  step-to : (k e : ℕ) → e < 3 * T → next k ≡ opp e → opp (next k) ≡ e
  step-to k e h q = ap opp q ∙ sph.twice e h

  bit-yes : (a b : ℕ) → a ≡ b → bit (eqb a b) ≡ 1
  bit-yes a b e = ap bit (eq-eqb a b e)

  bit_no : (a b : ℕ) → a ≢ b → bit (eqb a b) ≡ 0
  bit_no a b e = ap bit (ne_eqb a b e)

  Balance : ℕ → ℕ → Type 0
  Balance g k =
      near opp (next k) (next g) + bit (eqb (tri g) (tri (opp (next k)))) ≡ bit (eqb (tri g) (tri k)) + near opp (next k) g + near opp (next k) (prev g)

  -- from that triangle itself
  balance_own : (g : ℕ) → Apex T label g → Balance g g
  unfolding Balance
  balance_own g a =
      let b = a.below in
      let leaves = bit_no (tri g) (tri (opp (next g))) (λ e. no_loop g a (sym e)) in
      let first = near_none opp (next g) g (next-other g) (λ e. no_loop g a (ap tri (step-to g g b e))) in
      let last =
      near_none opp (next g) (prev g) (λ e. next-other (next g) (next-next g ∙ sym e))
      (λ e. no_loop g a (ap tri (step-to g (prev g) (prev-below T g b) e) ∙ tri-prev g)) in
      omega (arith, near_same opp (next g) (next g) refl, leaves, bit-yes (tri g) (tri g) refl, first, last)

  -- from another one: it comes in by one of the two other sides, or does not come in
  balance_other : (g k : ℕ) → Apex T label g → Apex T label k → tri g ≢ tri k → Balance g k
  unfolding Balance
  balance_other g k a b q =
      elim (ℕ_discrete (tri g) (tri (opp (next k)))) [
        | no e ↦
            let first = near_none opp (next k) g (differs g refl) (λ i. e (sym (ap tri (step-to k g a.below i)))) in
            let last = near_none opp (next k) (prev g) (differs (prev g) (tri-prev g)) (λ i. e (sym (ap tri (step-to k (prev g) pb i) ∙ tri-prev g))) in
            omega (arith, ahead, bit_no (tri g) (tri k) q, bit_no (tri g) (tri (opp (next k))) e, first, last)
        | yes e ↦
            elim (same-tri g (opp (next k)) e) [
              | inl i ↦
                  let last = near_none opp (next k) (prev g) (differs (prev g) (tri-prev g)) (λ j. prev-other g (sym (step-to k (prev g) pb j) ∙ i)) in
                  omega (arith, ahead, bit_no (tri g) (tri k) q, bit-yes (tri g) (tri (opp (next k))) e, near-across opp (next k) g (from g i), last)
              | inr (inl i) ↦ absurd (not_ahead (from (next g) i))
              | inr (inr i) ↦
                  let first = near_none opp (next k) g (differs g refl) (λ j. prev-other g (sym i ∙ step-to k g a.below j)) in
                  omega (
                    arith,
                    ahead,
                    bit_no (tri g) (tri k) q,
                    bit-yes (tri g) (tri (opp (next k))) e,
                    near-across opp (next k) (prev g) (from (prev g) i),
                    first,
                  )
            ]
      ]
    where
      pb : prev g < 3 * T
      pb = prev-below T g a.below

      differs : (d : ℕ) → tri d ≡ tri g → next k ≢ d
      differs d e i = q (sym e ∙ ap tri (sym i) ∙ tri-next k)

      from : (d : ℕ) → opp (next k) ≡ d → next k ≡ opp d
      from d i = sym (sph.twice (next k) (next-below T k b.below)) ∙ ap opp i

      not_ahead : next k ≢ opp (next g)
      not_ahead i =
          no_return g k a b (ap tri (step-to k (next g) (next-below T g a.below) i) ∙ tri-next g) (ap tri (sym i) ∙ tri-next k)

      ahead : near opp (next k) (next g) ≡ 0
      ahead = near_none opp (next k) (next g) (differs (next g) (tri-next g)) not_ahead

  -- A walk's step out of k passes the three sides of g's triangle as FLOW says.
  balance : (g k : ℕ) → Apex T label g → Apex T label k → Balance g k
  balance g k a b =
      elim (ℕ_discrete (tri g) (tri k)) [
        | yes e ↦ subst (Balance g) (apex_only sph R named a b e) (balance_own g a)
        | no e ↦ balance_other g k a b e
      ]

  module _ (W : ℕ → List ℕ) (walking : Walking T opp label W) where
    x_home : (d : ℕ) → hits opp (W 0) d ≡ 0
    unfolding hits
    x_home d = rw walking.home

    x_over : (g d : ℕ) → Apex T label g → hits opp (W (tri g)) d ≡ near opp (next g) d + hits opp (W (tri (opp (next g)))) d
    unfolding hits
    x_over g d a = rw (walking.over g a)

    -- a side that no triangle's walk begins with is never crossed
    pub never : (d : ℕ) → ((g : ℕ) → Apex T label g → (next g ≢ d) × (next g ≢ opp d)) → (u : ℕ) → u < T → hits opp (W u) d ≡ 0
    never d no_step u h =
        walk_ind (λ t. hits opp (W t) d ≡ 0) (x_home d)
        (λ g a ih. let k = no_step g a in omega (arith, x_over g d a, near_none opp (next g) d k.0 k.1, ih)) u h

    -- FLOW: the side opposite corner 2 of a triangle is crossed once by the walk that starts there, and as often as its two other sides by any walk.
    pub flow : (g : ℕ) → Apex T label g → (u : ℕ) → u < T →
        hits opp (W u) (next g) ≡ bit (eqb (tri g) u) + hits opp (W u) g + hits opp (W u) (prev g)
    unfolding Balance
    flow g a u h =
        walk_ind (λ t. hits opp (W t) (next g) ≡ bit (eqb (tri g) t) + hits opp (W t) g + hits opp (W t) (prev g))
        (omega (arith, x_home (next g), x_home g, x_home (prev g), bit_no (tri g) 0 (λ e. omega (arith, a.inner))))
        (λ k b ih. omega (arith, x_over k (next g) b, x_over k g b, x_over k (prev g) b, balance g k a b, ih)) u h

    -- ---- the sides that are never crossed, and the one that always is

    -- v0 v2 and v2 v1
    pub outside : (d : ℕ) → d < 3 * T → tri d ≡ 0 → d ≢ 2 → (u : ℕ) → u < T → hits opp (W u) d ≡ 0
    outside d h z q =
        never d (λ g a.
        let to : (e : next g ≡ opp d) → opp (next g) ≡ d = λ e. step-to g d h e in
        (λ e. omega (arith, ap tri e, tri-next g, a.inner, z), λ e. q (sym (to e) ∙ exit sph R named a (ap tri (to e) ∙ z))))

    -- sides of colour 2
    pub colour_two : {d : ℕ} → Points T org opp label v 2 d → (u : ℕ) → u < T → hits opp (W u) d ≡ 0
    colour_two {d} (inside i p q) u h =
        never d (λ g a.
        let l = apex-labels sph R named a in
        (λ e. omega (arith, p, l.1, ap label (ap next (sym e) ∙ next-next g)), λ e. omega (arith, q, l.0, ap label e))) u h
    colour_two {d} (along r e) u h =
        elim r.outer [
          | inl z ↦ outside d r.below z (λ i. omega (arith, i, rim-two sph R named d r.below z e)) u h
          | inr z ↦
              let one = rim_two' sph R named d r.below z e in
              sym (hits-side (W u) d r.below) ∙ outside (opp d) (sph.dart d r.below) z (λ i. omega (arith, i, one)) u h
        ]

    -- v0 v1: by every walk, once
    pub last-side : (u : ℕ) → 0 < u → u < T → hits opp (W u) 2 ≡ 1
    unfolding tri
    last-side u z h =
        walk_ind (λ t. 0 < t → hits opp (W t) 2 ≡ 1) (λ l. absurd (omega arith))
        (λ g a ih l.
        elim (ℕ_discrete (tri (opp (next g))) 0) [
          | yes e ↦
              let q : next g ≡ opp 2 = sym (sph.twice (next g) (next-below T g a.below)) ∙ ap opp (exit sph R named a e) in
              omega (arith, x_over g 2 a, near-across opp (next g) 2 q, ap (λ (t : ℕ). hits opp (W t) 2) e, x_home 2)
          | no e ↦
              let none =
              near_none opp (next g) 2 (λ i. omega (arith, ap tri i, tri-next g, a.inner))
              (λ i. e (ap tri (step-to g 2 (outer_below sph R named) i))) in
              omega (arith, x_over g 2 a, none, ih (omega arith))
        ]) u h z
