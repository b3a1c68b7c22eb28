-- Signed maps: what coordinates, slopes of sides and weights of triangles have to do with each other, and that the weights determine the rest.
-- Assumes nothing.
use Rattle.std.specs.Prelude.{ℕ, ◌*◌, ◌<◌, ◌≡◌, List, [], ◌∷◌, map, ℤ, pos, ◌+ℤ◌}
use Rattle.std.proofs.Math.Path.{sym, subst}
use Rattle.std.proofs.Common.{ap, ap₂, ◌∙◌, arith}
use Rattle.std.proofs.Math.Decide.{ℕ_discrete}
use Rattle.definitions.specs.Mesh.{tri, next, prev}
use Rattle.laws.specs.Every.{Every, every_append, every_split, every_in}
use Rattle.theory_sphere.specs.Sphere.{Sphere}
use Rattle.theory_sphere.specs.Darts.{next-below, prev-below, tri-below}
use Rattle.theory_realizer.specs.Trace.{Fan, end, more, edge, Step, here, there, Trace, done, step, fans, removed_vertices}
use Rattle.theory_realizer.specs.Realizer.{Points, Middle, Coloured, Realizer}
use Rattle.theory_sphere.specs.Rotations.{tip-opp, tip-rot}
use Rattle.theory_realizer.specs.Edges.{edge-org, edge-tip}
use Rattle.theory_crossings.specs.Gaps.{new-darts, old_darts}
use Rattle.theory_crossings.specs.Colours.{Named, Apex, Fanning, outer_below, heads, all_fanning, fan-apex, from_v1_to_v0, from_v0_to_v1, from_v0_to_v2}
use Rattle.theory_crossings.specs.Colours.{from_v1_to_v2}

-- Weights w of triangles, slopes F of sides and coordinates B0, B1 of vertices that belong together.
pub record Drawing (T : ℕ) (org opp label v : ℕ → ℕ) (w F B0 B1 : ℕ → ℤ) : Type 0 where
  -- a side has one slope, and 0 if it has colour 2
  pub side : (d : ℕ) → d < 3 * T → F (opp d) ≡ F d
  pub two : (d : ℕ) → Points T org opp label v 2 d → F d ≡ pos 0
  -- the weight of a triangle is the slope opposite its corner 2, less those of its other sides
  pub flow : (g : ℕ) → Apex T label g → F (next g) ≡ w (tri g) +ℤ F g +ℤ F (prev g)
  -- the slope is how much b1 falls along a side of colour 0, and b0 along one of colour 1; at v0 and at v1 they are 0
  pub down0 : (d : ℕ) → Points T org opp label v 0 d → B1 (org d) ≡ F d +ℤ B1 (org (next d))
  pub down1 : (d : ℕ) → Points T org opp label v 1 d → B0 (org d) ≡ F d +ℤ B0 (org (next d))
  pub zero0 : B1 (v 0) ≡ pos 0
  pub zero1 : B0 (v 1) ≡ pos 0

-- the darts of the frontier after a step, from those before it
module _ {T : ℕ} {org opp : ℕ → ℕ} {e e' : ℕ} {gs : List ℕ} (P : ℕ → Type 0) where
  left-dart : {C C' : List ℕ} → Step T org opp e e' gs C C' → Every P C → P e × P e'
  left-dart here k = (k.0, k.1.0)
  left-dart (there d s) k = left-dart s k.1

  next-darts : {C C' : List ℕ} → Step T org opp e e' gs C C' → Every P (map (edge T org opp) gs) → Every P C → Every P C'
  next-darts (here {B}) p k = every_append P (map (edge T org opp) gs) B p k.1.1
  next-darts (there d s) p k = (k.0, next-darts s p k.1)

module _ {n T : ℕ} {org opp label v : ℕ → ℕ} (sph : Sphere n T org opp) (R : Realizer n T org opp label v) (named : Named org v)
    {w F B0 B1 w' F' B0' B1' : ℕ → ℤ} (D : Drawing T org opp label v w F B0 B1) (D' : Drawing T org opp label v w' F' B0' B1')
    (weights : (t : ℕ) → 0 < t → t < T → w t ≡ w' t) where
  abbrev Same : ℕ → Type 0
  Same d = F d ≡ F' d

  abbrev Alike : ℕ → Type 0
  Alike i = (B0 i ≡ B0' i) × (B1 i ≡ B1' i)

  same-opp : (d : ℕ) → d < 3 * T → Same d → Same (opp d)
  same-opp d h e = D.side d h ∙ e ∙ sym (D'.side d h)

  opp-same : (d : ℕ) → d < 3 * T → Same (opp d) → Same d
  opp-same d h e = sym (D.side d h) ∙ e ∙ D'.side d h

  same-two : (d : ℕ) → Points T org opp label v 2 d → Same d
  same-two d p = D.two d p ∙ sym (D'.two d p)

  -- ---- slopes, from the first frontier on

  same-edge : (g : ℕ) → Apex T label g → Same g → Same (prev g) → Same (edge T org opp g)
  unfolding edge
  same-edge g a p q =
      let h = next-below T g a.below in
      let e : w (tri g) ≡ w' (tri g) = weights (tri g) a.inner (tri-below T g a.below) in
      let f : w (tri g) +ℤ F g +ℤ F (prev g) ≡ w' (tri g) +ℤ F' g +ℤ F' (prev g) = rw (e, p, q) in
      D.side (next g) h ∙ D.flow g a ∙ f ∙ sym (D'.flow g a) ∙ sym (D'.side (next g) h)

  fan-same : {last g : ℕ} {gs : List ℕ} (f : Fan T org opp last g gs) → Same g → Same last → Every (Fanning T org opp label v) gs →
      Middle T org opp label v gs → Every Same (map (edge T org opp) gs)
  fan-same (end {g} h q) p l k m =
      let z = prev-below T g h in
      (same-edge g (fan-apex sph R named k.0) p (opp-same (prev g) z (subst Same (sym q) l)), tt)
  fan-same (more {g} h f) p l k m =
      let z = prev-below T g h in
      let t = heads sph R named f m in
      let s : Same (opp (prev g)) = opp-same (opp (prev g)) (sph.dart (prev g) z) (same-two (opp (opp (prev g))) t.0) in
      (same-edge g (fan-apex sph R named k.0) p (opp-same (prev g) z s), fan-same f s l k.1 t.1)

  -- ---- coordinates, from the last frontier back

  abbrev Ends : ℕ → Type 0
  Ends d = Alike (org d) × Alike (org (next d))

  alike0 : (d : ℕ) → Points T org opp label v 0 d → Same d → B1 (org (next d)) ≡ B1' (org (next d)) → B1 (org d) ≡ B1' (org d)
  alike0 d p s e = D.down0 d p ∙ ap₂ ◌+ℤ◌ s e ∙ sym (D'.down0 d p)

  alike1 : (d : ℕ) → Points T org opp label v 1 d → Same d → B0 (org (next d)) ≡ B0' (org (next d)) → B0 (org d) ≡ B0' (org d)
  alike1 d p s e = D.down1 d p ∙ ap₂ ◌+ℤ◌ s e ∙ sym (D'.down1 d p)

  -- the same for the opposite dart, at its vertices
  alike1' : (d : ℕ) → d < 3 * T → Points T org opp label v 1 (opp d) → Same d → B0 (org d) ≡ B0' (org d) →
      B0 (org (next d)) ≡ B0' (org (next d))
  alike1' d h p s e = rw (sph.reverses d h) at (alike1 (opp d) p (same-opp d h s) (rw (tip-opp sph d h) e))

  fan-ends : {last g : ℕ} {gs : List ℕ} → Fan T org opp last g gs → Every Ends (map (edge T org opp) gs) → Alike (org (next g))
      × Alike (org (next last))
  fan-ends (end {g} h q) k =
      (subst Alike (edge-tip sph g h) k.0.1, subst Alike (edge-org sph g h ∙ sym (tip-rot sph g h) ∙ ap (λ (d : ℕ). org (next d)) q) k.0.0)
  fan-ends (more {g} h f) k = (subst Alike (edge-tip sph g h) k.0.1, (fan-ends f k.1).1)

  -- what is alike in the end
  record Agree (C ls : List ℕ) : Type 0 where
    frontier : Every Ends C
    left : Every Alike ls
    last : Same 2

  agree : {C : List ℕ} (tr : Trace T org opp C) → Coloured T org opp label v tr → Every (Fanning T org opp label v) (fans T org opp tr) →
      Every Same C → Agree C (removed_vertices T org opp tr)
  unfolding fans removed_vertices next
  agree done k fs s =
      let h = outer_below sph R named in
      let z0 : B1 (org 0) ≡ B1' (org 0) = rw named.v0 at (D.zero0 ∙ sym D'.zero0) in
      let z1 : B0 (org 2) ≡ B0' (org 2) = rw named.v1 at (D.zero1 ∙ sym D'.zero1) in
      let o0 : B0 (org 0) ≡ B0' (org 0) = alike1' 2 h (from_v0_to_v1 sph R named) s.0 z1 in
      let o1 : B1 (org 2) ≡ B1' (org 2) = alike0 2 (from_v1_to_v0 sph R named) s.0 z0 in
      record { frontier = (((z1, o1), (o0, z0)), tt); left = tt; last = s.0 }
  agree (step e e' gs h o f st tr) k fs s =
      let split = every_split (Fanning T org opp label v) gs (fans T org opp tr) fs in
      let lr = left-dart Same st s in
      let new = fan-same f lr.0 (same-opp e' h lr.1) split.0 k.2 in
      let rest = agree tr k.3 split.1 (next-darts Same st new s) in
      let ends = fan-ends f (new-darts Ends st rest.frontier) in
      let l = ends.0 in
      let r : Alike (org e') = subst Alike (tip-opp sph e' h) ends.1 in
      let v1 : B1 (org e) ≡ B1' (org e) = alike0 e k.0 lr.0 l.1 in
      let v0 : B0 (org e) ≡ B0' (org e) = rw (sym o) at (alike1' e' h k.1 lr.1 r.0) in
      let here : Alike (org e) = (v0, v1) in
      record {
        frontier = old_darts Ends st (here, l) (r, subst Alike o here) rest.frontier;
        left = (here, rest.left);
        last = rest.last;
      }

  whole : Agree (opp 0 ∷ opp 1 ∷ []) (removed_vertices T org opp R.trace)
  whole =
      let h = outer_below sph R named in
      let s0 : Same (opp 0) = same-opp 0 (omega arith) (same-two 0 (from_v0_to_v2 sph R named)) in
      agree R.trace R.colours (all_fanning sph R named R.trace R.colours) (s0, (same-two (opp 1) (from_v1_to_v2 sph R named), tt))

  -- two drawings with the same weights have the same coordinates, and the same slope from v1 to v0
  pub unique : (i : ℕ) → i < n → (B0 i ≡ B0' i) × (B1 i ≡ B1' i)
  unfolding next
  unique i h =
      let l = outer_below sph R named in
      let f = whole.frontier in
      elim (ℕ_discrete i (v 0)) [
        | yes e ↦ subst Alike (tip-opp sph 0 (omega arith) ∙ sym named.v0 ∙ sym e) f.0.1
        | no p ↦
            elim (ℕ_discrete i (v 1)) [
              | yes e ↦ subst Alike (sph.reverses 1 (omega arith) ∙ sym named.v1 ∙ sym e) f.1.0.0
              | no q ↦ every_in Alike whole.left (R.leaves i h p q)
            ]
      ]

  pub unique_last : F 2 ≡ F' 2
  unique_last = whole.last
