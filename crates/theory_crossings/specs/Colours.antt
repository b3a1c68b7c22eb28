-- What a realizer says of labels round a triangle, of the sides of the outer triangle, and of the darts that a trace's fans pass. Assumes nothing.
use Prim.Native.Nat.{ℕ, zero, suc, ◌+◌, ◌*◌, ◌%◌, ◌≤◌, ◌<◌}
use Rattle.std.specs.Prelude.{◌≡◌, ◌≢◌, ◌⊎◌}
use Rattle.std.proofs.Math.Path.{refl, sym, ap}
use Rattle.std.proofs.Common.{◌∙◌, subst}
use Rattle.std.proofs.Math.Logic.{inl, inr}
use mathlib.Core.List.{List, map, Memᴰ}
use native.Mathlib.Omega.{arith}
use Rattle.std.proofs.Math.Decide.{ℕ_discrete}
use Rattle.definitions.specs.Mesh.{tri, next, prev}
use Rattle.laws.specs.Every.{Every, every_append, every_in}
use Rattle.theory_sphere.specs.Sphere.{Sphere}
use Rattle.theory_sphere.specs.Darts.{tri-next, tri-prev, next-prev, prev-next, next-next, prev-prev, same-tri, next-below, prev-below, tri-below, below-tri}
use Rattle.theory_realizer.specs.Trace.{Fan, end, more, edge, Trace, done, step, fans}
use Rattle.theory_realizer.specs.Realizer.{Inner, Rim, Points, inside, along, Between, Middle, Coloured, Realizer}
use Rattle.theory_sphere.specs.Rotations.{tip-opp, org-rot, tip-rot}
use Rattle.theory_crossings.specs.Gaps.{new-darts, old_darts}

-- v0, v2, v1 are the outer triangle's vertices as listed
pub record Named (org v : ℕ → ℕ) : Type 0 where
  pub v0 : v 0 ≡ org 0
  pub v1 : v 1 ≡ org 2
  pub v2 : v 2 ≡ org 1

-- the corner with label 2 of an inner triangle
pub record Apex (T : ℕ) (label : ℕ → ℕ) (g : ℕ) : Type 0 where
  pub below : g < 3 * T
  pub inner : 0 < tri g
  pub two : label g ≡ 2

module _ (T : ℕ) (org opp label v : ℕ → ℕ) where
  -- what a dart of a frontier is: the last one, or one of colour 0 to the left, or of colour 1 to the right
  abbrev pub Side : ℕ → Type 0
  Side d = (d ≡ 2) ⊎ (Points T org opp label v 0 d ⊎ Points T org opp label v 1 (opp d))

  -- what a dart g of a fan is: its side, and the side before it in its triangle, are coloured as the trace says
  pub record Fanning (g : ℕ) : Type 0 where
    pub below : g < 3 * T
    pub not0 : org g ≢ v 0
    pub not1 : org g ≢ v 1
    pub left : Points T org opp label v 0 g ⊎ Points T org opp label v 2 (opp g)
    pub right : Points T org opp label v 1 (opp (prev g)) ⊎ Points T org opp label v 2 (prev g)
    pub beyond : Side (edge T org opp g)

module _ {n T : ℕ} {org opp label v : ℕ → ℕ} (sph : Sphere n T org opp) (R : Realizer n T org opp label v) (named : Named org v) where
  -- ---- labels go 0, 1, 2 round an inner triangle

  pub cycle : (d : ℕ) → d < 3 * T → 0 < tri d → (label d < 3) × (label (next d) ≡ (label d + 1) % 3) × (label (prev d) ≡ (label d + 2) % 3)
  cycle d h p =
      let c = R.corners (tri d) p (tri-below T d h) in
      let g = c.0 in
      elim (same-tri g d c.1) [
        | inl e ↦ omega (arith, ap label e, ap label (ap next e), ap label (ap prev e), c.2, c.3, c.4)
        | inr (inl e) ↦
            omega (arith, ap label e, ap label (ap next e ∙ next-next g), ap label (ap prev e ∙ prev-next g), c.2, c.3, c.4)
        | inr (inr e) ↦
            omega (arith, ap label e, ap label (ap next e ∙ next-prev g), ap label (ap prev e ∙ prev-prev g), c.2, c.3, c.4)
      ]

  -- no label is there twice
  pub label-once : (d e : ℕ) → d < 3 * T → 0 < tri d → tri d ≡ tri e → label d ≡ label e → d ≡ e
  label-once d e h p q l =
      let c = cycle d h p in
      elim (same-tri d e q) [
        | inl i ↦ sym i
        | inr (inl i) ↦ absurd (omega (arith, c, ap label i))
        | inr (inr i) ↦ absurd (omega (arith, c, ap label i))
      ]

  -- ---- the outer triangle

  pub outer_below : 2 < 3 * T
  outer_below = omega (arith, sph.least, sph.size)

  apart01 : org 0 ≢ org 2
  unfolding next
  apart01 e = sph.proper 2 outer_below (sym e)

  apart02 : org 0 ≢ org 1
  unfolding next
  apart02 e = sph.proper 0 (omega (arith, outer_below)) e

  apart12 : org 2 ≢ org 1
  unfolding next
  apart12 e = sph.proper 1 (omega (arith, outer_below)) (sym e)

  -- a side of the outer triangle has only the colours of its ends
  pub rim_colour : (c d : ℕ) → tri d ≡ 0 → Points T org opp label v c d → org (next d) ≡ v c
  rim_colour c d z (inside i p q) = absurd (omega (arith, z, i.this))
  rim_colour c d z (along r e) = e

  pub rim_colour' : (c d : ℕ) → d < 3 * T → tri d ≡ 0 → Points T org opp label v c (opp d) → org d ≡ v c
  rim_colour' c d h z (inside i p q) = absurd (omega (arith, z, i.that, ap tri (sph.twice d h)))
  rim_colour' c d h z (along r e) = sym (tip-opp sph d h) ∙ e

  -- which of its darts leaves v2, and which leads there: the ones that do so at neither v0 nor v1
  leaves_v2 : (d : ℕ) → tri d ≡ 0 → org d ≢ v 0 → org d ≢ v 1 → d ≡ 1
  unfolding tri
  leaves_v2 zero z p q = absurd (p (sym named.v0))
  leaves_v2 (suc zero) z p q = refl
  leaves_v2 (suc (suc zero)) z p q = absurd (q (sym named.v1))
  leaves_v2 (suc (suc (suc d))) z p q = absurd (omega arith)

  leads_to_v2 : (d : ℕ) → tri d ≡ 0 → org (next d) ≢ v 0 → org (next d) ≢ v 1 → d ≡ 0
  unfolding tri next
  leads_to_v2 d z p q = omega (arith, leaves_v2 (next d) (tri-next d ∙ z) p q)

  from_v2 : (d : ℕ) → tri d ≡ 0 → org d ≡ v 2 → d ≡ 1
  from_v2 d z e = leaves_v2 d z (λ k. apart02 (sym named.v0 ∙ sym k ∙ e ∙ named.v2)) (λ k. apart12 (sym named.v1 ∙ sym k ∙ e ∙ named.v2))

  to_v2 : (d : ℕ) → tri d ≡ 0 → org (next d) ≡ v 2 → d ≡ 0
  to_v2 d z e = leads_to_v2 d z (λ k. apart02 (sym named.v0 ∙ sym k ∙ e ∙ named.v2)) (λ k. apart12 (sym named.v1 ∙ sym k ∙ e ∙ named.v2))

  -- and it has those, both ways
  rim : (d : ℕ) → d < 3 → Rim T opp d
  unfolding tri
  rim d h = record { below = omega (arith, outer_below); outer = inl (omega arith) }

  rim' : (d : ℕ) → d < 3 → Rim T opp (opp d)
  unfolding tri
  rim' d h =
      let l : d < 3 * T = omega (arith, outer_below) in
      record { below = sph.dart d l; outer = inr (omega (arith, ap tri (sph.twice d l))) }

  pub from_v1_to_v0 : Points T org opp label v 0 2
  unfolding next
  from_v1_to_v0 = along (rim 2 (omega arith)) (sym named.v0)

  pub from_v0_to_v1 : Points T org opp label v 1 (opp 2)
  from_v0_to_v1 = along (rim' 2 (omega arith)) (tip-opp sph 2 outer_below ∙ sym named.v1)

  pub from_v2_to_v0 : Points T org opp label v 0 (opp 0)
  from_v2_to_v0 = along (rim' 0 (omega arith)) (tip-opp sph 0 (omega (arith, outer_below)) ∙ sym named.v0)

  pub from_v2_to_v1 : Points T org opp label v 1 1
  unfolding next
  from_v2_to_v1 = along (rim 1 (omega arith)) (sym named.v1)

  pub from_v0_to_v2 : Points T org opp label v 2 0
  unfolding next
  from_v0_to_v2 = along (rim 0 (omega arith)) (sym named.v2)

  pub from_v1_to_v2 : Points T org opp label v 2 (opp 1)
  from_v1_to_v2 = along (rim' 1 (omega arith)) (tip-opp sph 1 (omega (arith, outer_below)) ∙ sym named.v2)

  -- the one dart of the outer triangle that a frontier has
  outer-side : (d : ℕ) → d < 3 * T → tri d ≡ 0 → Side T org opp label v d → d ≡ 2
  unfolding tri next
  outer-side zero h z (inl e) = e
  outer-side zero h z (inr (inl p)) = absurd (apart02 (sym named.v0 ∙ sym (rim_colour 0 0 refl p)))
  outer-side zero h z (inr (inr p)) = absurd (apart01 (rim_colour' 1 0 h refl p ∙ named.v1))
  outer-side (suc zero) h z (inl e) = e
  outer-side (suc zero) h z (inr (inl p)) = absurd (apart01 (sym named.v0 ∙ sym (rim_colour 0 1 refl p)))
  outer-side (suc zero) h z (inr (inr p)) = absurd (apart12 (sym named.v1 ∙ sym (rim_colour' 1 1 h refl p)))
  outer-side (suc (suc zero)) h z k = refl
  outer-side (suc (suc (suc d))) h z k = absurd (omega arith)

  -- colour 2 on the rim: the sides of v2, towards it
  pub rim-two : (d : ℕ) → d < 3 * T → tri d ≡ 0 → org (next d) ≡ v 2 → d ≡ 0
  rim-two d h z e = to_v2 d z e

  pub rim_two' : (d : ℕ) → d < 3 * T → tri (opp d) ≡ 0 → org (next d) ≡ v 2 → opp d ≡ 1
  rim_two' d h z e = from_v2 (opp d) z (sph.reverses d h ∙ e)

  -- ---- paths of colours 0 and 1 climb to v0 and v1

  pub points-below : {c d : ℕ} → Points T org opp label v c d → d < 3 * T
  points-below (inside i p q) = i.below
  points-below (along r e) = r.below

  pub tip-below : {c d : ℕ} → Points T org opp label v c d → org (next d) < n
  tip-below {c} {d} p = sph.vertex (next d) (next-below T d (points-below p))

  pub org-below : {c d : ℕ} → Points T org opp label v c d → org d < n
  org-below {c} {d} p = sph.vertex d (points-below p)

  climb : (c : ℕ) → c < 2 → (k i : ℕ) → i < n → i ≢ v c → n ≤ k + R.rank c i → R.rank c i < R.rank c (v c)
  climb c l zero i b q h = absurd (omega (arith, R.rank_below c i b))
  climb c l (suc k) i b q h =
      let o = R.out c (omega arith) i b q in
      let r = R.rank_rises c l o.0 o.2 in
      let s = ap (R.rank c) o.1 in
      elim (ℕ_discrete (org (next o.0)) (v c)) [
        | yes e ↦ omega (arith, r, s, ap (R.rank c) e)
        | no e ↦ omega (arith, r, s, climb c l k (org (next o.0)) (tip-below o.2) e (omega (arith, r, s)))
      ]

  -- no side of colour c leaves v_c
  pub stays : (c : ℕ) → c < 2 → {d : ℕ} → Points T org opp label v c d → org d ≢ v c
  stays c l {d} p e =
      let r = R.rank_rises c l d p in
      let s = ap (R.rank c) e in
      elim (ℕ_discrete (org (next d)) (v c)) [
        | yes q ↦ omega (arith, r, s, ap (R.rank c) q)
        | no q ↦ omega (arith, r, s, climb c l n (org (next d)) (tip-below p) q (omega arith))
      ]

  -- ---- the darts of a trace

  sides : {C : List ℕ} (tr : Trace T org opp C) → Coloured T org opp label v tr → Every (Side T org opp label v) C
  sides done k = (inl refl, tt)
  sides (step e e' gs h o f s tr) k = old_darts (Side T org opp label v) s (inr (inl k.0)) (inr (inr k.1)) (sides tr k.3)

  -- a fan's first dart, if it comes after another
  pub heads : {last g : ℕ} {gs : List ℕ} → Fan T org opp last g gs → Between T org opp label v gs → Points T org opp label v 2 (opp g)
      × Middle T org opp label v gs
  heads (end h q) k = (k.0, tt)
  heads (more h f) k = (k.0, k.1)

  fan-darts : {last g : ℕ} {gs : List ℕ} (f : Fan T org opp last g gs) → org g ≢ v 0 → org g ≢ v 1 →
      Points T org opp label v 0 g ⊎ Points T org opp label v 2 (opp g) → Points T org opp label v 1 last → Middle T org opp label v gs →
      Every (Side T org opp label v) (map (edge T org opp) gs) → Every (Fanning T org opp label v) gs
  fan-darts (end {g} h q) z0 z1 l r m s =
      (record { below = h; not0 = z0; not1 = z1; left = l; right = inl (subst (Points T org opp label v 1) (sym q) r); beyond = s.0 }, tt)
  fan-darts (more {g} h f) z0 z1 l r m s =
      let k = heads f m in
      let o = org-rot sph g h in
      let here : Fanning T org opp label v g =
      record {
        below = h;
        not0 = z0;
        not1 = z1;
        left = l;
        right = inr (subst (Points T org opp label v 2) (sph.twice (prev g) (prev-below T g h)) k.0);
        beyond = s.0;
      } in
      (here, fan-darts f (λ e. z0 (sym o ∙ e)) (λ e. z1 (sym o ∙ e)) (inr k.0) r k.1 s.1)

  pub all_fanning : {C : List ℕ} (tr : Trace T org opp C) → Coloured T org opp label v tr → Every (Fanning T org opp label v) (fans T org opp tr)
  unfolding fans
  all_fanning done k = tt
  all_fanning (step e e' gs h o f s tr) k =
      let new = new-darts (Side T org opp label v) s (sides tr k.3) in
      let z0 = stays 0 (omega arith) k.0 in
      let z1 : org e ≢ v 1 = λ q. stays 1 (omega arith) k.1 (sph.reverses e' h ∙ sym o ∙ q) in
      every_append (Fanning T org opp label v) gs (fans T org opp tr) (fan-darts f z0 z1 (inl k.0) k.1 k.2 new) (all_fanning tr k.3)

  pub fanning : {g : ℕ} → Memᴰ g (fans T org opp R.trace) → Fanning T org opp label v g
  fanning m = every_in (Fanning T org opp label v) (all_fanning R.trace R.colours) m

  -- a fan's dart is in an inner triangle, at its corner with label 2
  fan-inner : (g : ℕ) → Fanning T org opp label v g → 0 < tri g
  unfolding tri edge next
  fan-inner zero k = absurd (k.not0 (sym named.v0))
  fan-inner (suc zero) k =
      elim k.beyond [
        | inl e ↦ absurd (apart01 (sym (sph.reverses 2 outer_below) ∙ ap org e))
        | inr (inl p) ↦ absurd (apart01 (sym named.v0 ∙ sym (rim_colour' 0 2 outer_below refl p)))
        | inr (inr p) ↦
            absurd (apart01 (rim_colour 1 2 refl (subst (Points T org opp label v 1) (sph.twice 2 outer_below) p) ∙ named.v1))
      ]
  fan-inner (suc (suc zero)) k = absurd (k.not1 (sym named.v1))
  fan-inner (suc (suc (suc g))) k = omega arith

  left-label : (g : ℕ) → g < 3 * T → 0 < tri g → Points T org opp label v 0 g ⊎ Points T org opp label v 2 (opp g) →
      (label g ≡ 2) ⊎ (org (next g) ≡ v 0)
  left-label g h z (inl (inside i p q)) = inl (omega (arith, cycle g h z, p))
  left-label g h z (inl (along r e)) = inr e
  left-label g h z (inr (inside i p q)) = inl (ap label (sym (sph.twice g h)) ∙ q)
  left-label g h z (inr (along r e)) =
      elim r.outer [
        | inl o ↦ inr (sym (sph.reverses g h) ∙ ap org (to_v2 (opp g) o e) ∙ sym named.v0)
        | inr o ↦ absurd (omega (arith, o, z, ap tri (sph.twice g h)))
      ]

  right_label : (g : ℕ) → g < 3 * T → 0 < tri g → Points T org opp label v 1 (opp (prev g)) ⊎ Points T org opp label v 2 (prev g) →
      (label g ≡ 2) ⊎ (org (prev g) ≡ v 1)
  unfolding next
  right_label g h z (inl (inside i p q)) = inl (omega (arith, cycle g h z, q, ap label (sph.twice (prev g) (prev-below T g h))))
  right_label g h z (inl (along r e)) = inr (sym (tip-rot sph g h) ∙ e)
  right_label g h z (inr (inside i p q)) = inl (ap label (sym (next-prev g)) ∙ p)
  right_label g h z (inr (along r e)) =
      elim r.outer [
        | inl o ↦ absurd (omega (arith, o, z, tri-prev g))
        | inr o ↦
            let one : opp (prev g) ≡ 1 = from_v2 (opp (prev g)) o (org-rot sph g h ∙ ap org (sym (next-prev g)) ∙ e) in
            inr (sym (tip-rot sph g h) ∙ ap (λ (d : ℕ). org (next d)) one ∙ sym named.v1)
      ]

  fan-label : (g : ℕ) → Fanning T org opp label v g → label g ≡ 2
  fan-label g k =
      elim (left-label g k.below z k.left) [
        | inl e ↦ e
        | inr e0 ↦ elim (right_label g k.below z k.right) [ inl e ↦ e | inr e1 ↦ only_corner e0 e1 ]
      ]
    where
      z : 0 < tri g
      z = fan-inner g k

      -- the corner with label 2 is passed, so that it is neither at v0 nor at v1
      only_corner : org (next g) ≡ v 0 → org (prev g) ≡ v 1 → label g ≡ 2
      only_corner e0 e1 =
          let c = R.corners (tri g) z (tri-below T g k.below) in
          let m = fanning (R.passes c.0 (below-tri T c.0 (omega (arith, c.1, tri-below T g k.below))) (omega (arith, z, c.1)) c.2) in
          elim (same-tri g c.0 (sym c.1)) [
            | inl e ↦ ap label (sym e) ∙ c.2
            | inr (inl e) ↦ absurd (m.not0 (ap org e ∙ e0))
            | inr (inr e) ↦ absurd (m.not1 (ap org e ∙ e1))
          ]

  pub fan-apex : {g : ℕ} → Fanning T org opp label v g → Apex T label g
  fan-apex {g} k = record { below = k.below; inner = fan-inner g k; two = fan-label g k }

  -- each inner triangle has such a corner, one only, and it is in a fan
  pub apex : (t : ℕ) → 0 < t → t < T → (g : ℕ) × (tri g ≡ t) × Apex T label g
  apex t z h =
      let c = R.corners t z h in
      (c.0, c.1, record { below = below-tri T c.0 (omega (arith, c.1)); inner = omega (arith, c.1); two = c.2 })

  pub apex_only : {g k : ℕ} → Apex T label g → Apex T label k → tri g ≡ tri k → g ≡ k
  apex_only {g} {k} a b e = label-once g k a.below a.inner e (a.two ∙ sym b.two)

  pub apex_passed : {g : ℕ} → Apex T label g → Memᴰ g (fans T org opp R.trace)
  apex_passed {g} a = R.passes g a.below a.inner a.two

  -- the labels at its triangle's other corners
  pub apex-labels : {g : ℕ} → Apex T label g → (label (next g) ≡ 0) × (label (prev g) ≡ 1)
  apex-labels {g} a = omega (arith, cycle g a.below a.inner, a.two)

  -- a walk enters the outer triangle by the side of v0 and v1 only
  pub exit : {g : ℕ} → Apex T label g → tri (opp (next g)) ≡ 0 → opp (next g) ≡ 2
  unfolding edge
  exit {g} a z = outer-side (opp (next g)) (sph.dart (next g) (next-below T g a.below)) z (fanning (apex_passed a)).beyond

  -- and its triangle's other two sides are on the rim only beside v2
  pub left-rim : {g : ℕ} → Apex T label g → tri (opp g) ≡ 0 → opp g ≡ 0
  left-rim {g} a z =
      let f = fanning (apex_passed a) in
      let e = tip-opp sph g a.below in
      leads_to_v2 (opp g) z (λ k. f.not0 (sym e ∙ k)) (λ k. f.not1 (sym e ∙ k))

  pub right_rim : {g : ℕ} → Apex T label g → tri (opp (prev g)) ≡ 0 → opp (prev g) ≡ 1
  right_rim {g} a z =
      let f = fanning (apex_passed a) in
      let e = org-rot sph g a.below in
      leaves_v2 (opp (prev g)) z (λ k. f.not0 (sym e ∙ k)) (λ k. f.not1 (sym e ∙ k))

  -- ---- the colours of a side

  -- v0, v1, v2 are different
  pub v_once : (c e : ℕ) → c < 3 → e < 3 → v c ≡ v e → c ≡ e
  v_once zero zero h k q = refl
  v_once zero (suc zero) h k q = absurd (apart01 (sym named.v0 ∙ q ∙ named.v1))
  v_once zero (suc (suc zero)) h k q = absurd (apart02 (sym named.v0 ∙ q ∙ named.v2))
  v_once (suc zero) zero h k q = absurd (apart01 (sym named.v0 ∙ sym q ∙ named.v1))
  v_once (suc zero) (suc zero) h k q = refl
  v_once (suc zero) (suc (suc zero)) h k q = absurd (apart12 (sym named.v1 ∙ q ∙ named.v2))
  v_once (suc (suc zero)) zero h k q = absurd (apart02 (sym named.v0 ∙ sym q ∙ named.v2))
  v_once (suc (suc zero)) (suc zero) h k q = absurd (apart12 (sym named.v1 ∙ sym q ∙ named.v2))
  v_once (suc (suc zero)) (suc (suc zero)) h k q = refl
  v_once (suc (suc (suc c))) e h k q = absurd (omega arith)
  v_once zero (suc (suc (suc e))) h k q = absurd (omega arith)
  v_once (suc zero) (suc (suc (suc e))) h k q = absurd (omega arith)
  v_once (suc (suc zero)) (suc (suc (suc e))) h k q = absurd (omega arith)

  pub not-both : {X : Type 0} (d : ℕ) → Inner T opp d → Rim T opp d → X
  not-both d i r = elim r.outer [ inl z ↦ absurd (omega (arith, z, i.this)) | inr z ↦ absurd (omega (arith, z, i.that)) ]

  -- the opposite dart of an inner side, and of a rim side
  pub flip_inner : (d : ℕ) → Inner T opp d → Inner T opp (opp d)
  flip_inner d i = record { below = sph.dart d i.below; this = i.that; that = omega (arith, i.this, ap tri (sph.twice d i.below)) }

  flip_rim : (d : ℕ) → d < 3 * T → Rim T opp (opp d) → Rim T opp d
  flip_rim d h r =
      elim r.outer [
        | inl z ↦ record { below = h; outer = inr z }
        | inr z ↦ record { below = h; outer = inl (ap tri (sym (sph.twice d h)) ∙ z) }
      ]

  -- a side has one colour towards one end
  pub one_way : (c e d : ℕ) → c < 3 → e < 3 → Points T org opp label v c d → Points T org opp label v e d → c ≡ e
  one_way c e d h k (inside i p q) (inside i' p' q') = sym p ∙ p'
  one_way c e d h k (inside i p q) (along r' p') = not-both d i r'
  one_way c e d h k (along r p) (inside i' p' q') = not-both d i' r
  one_way c e d h k (along r p) (along r' p') = v_once c e h k (sym p ∙ p')

  -- an inner side has a colour towards one of its ends alone
  pub inner-one_way : {X : Type 0} (c e d : ℕ) → Inner T opp d → Points T org opp label v c d → Points T org opp label v e (opp d) → X
  inner-one_way c e d i (inside _ p q) (inside i' p' q') =
      absurd (omega (arith, p, q, p', q', ap label (sph.twice d i.below), cycle d i.below i.this, cycle (opp d) i'.below i.that))
  inner-one_way c e d i (inside _ p q) (along r' p') = not-both d i (flip_rim d i.below r')
  inner-one_way c e d i (along r p) t = not-both d i r

  -- and colours towards both ends only on the rim
  pub both_ways : (c e d : ℕ) → Points T org opp label v c d → Points T org opp label v e (opp d) → (org (next d) ≡ v c) × (org d ≡ v e)
  both_ways c e d (inside i p q) t = inner-one_way c e d i (inside i p q) t
  both_ways c e d (along r p) (inside i' p' q') =
      elim r.outer [
        | inl z ↦ absurd (omega (arith, z, i'.that, ap tri (sph.twice d r.below)))
        | inr z ↦ absurd (omega (arith, z, i'.this))
      ]
  both_ways c e d (along r p) (along r' p') = (p, sym (tip-opp sph d r.below) ∙ p')

  -- every side has a colour
  outer_coloured : (d : ℕ) → tri d ≡ 0 → (c : ℕ) × (c < 3) × Points T org opp label v c d
  unfolding tri
  outer_coloured zero z = (2, omega arith, from_v0_to_v2)
  outer_coloured (suc zero) z = (1, omega arith, from_v2_to_v1)
  outer_coloured (suc (suc zero)) z = (0, omega arith, from_v1_to_v0)
  outer_coloured (suc (suc (suc d))) z = absurd (omega arith)

  pub side_coloured : (d : ℕ) → d < 3 * T → (c : ℕ) × (c < 3) × (Points T org opp label v c d ⊎ Points T org opp label v c (opp d))
  side_coloured d h =
      elim (ℕ_discrete (tri d) 0) [
        | yes z ↦ let k = outer_coloured d z in (k.0, k.1, inl k.2)
        | no y ↦
            elim (ℕ_discrete (tri (opp d)) 0) [
              | yes z ↦ let k = outer_coloured (opp d) z in (k.0, k.1, inr k.2)
              | no x ↦ R.coloured d (record { below = h; this = omega arith; that = omega arith })
            ]
      ]
