-- The laws of any trace of a peeling, in natural numbers: how the coordinates of two neighbours on a frontier, and of a triangle's three corners, differ.
-- Assumes nothing.
-- x is the number that a frontier's dart carries (how often a walk crosses its side), w the number of a fan's dart (the weight of its triangle),
-- b0 and b1 are coordinates of vertices. They are any solution of the equations `Solves`; where they come from does not matter here.
use Rattle.std.specs.Prelude.{ℕ, ◌+◌, ◌*◌, ◌≤◌, ◌<◌, ◌≡◌, refl, List, map}
use Rattle.std.proofs.Common.{sym, ap, ◌∙◌}
use native.Mathlib.Omega.{arith}
use Rattle.definitions.specs.Mesh.{next, prev}
use Rattle.laws.specs.Every.{Every, every_append, every_split}
use Rattle.theory_sphere.specs.Sphere.{Sphere}
use Rattle.theory_realizer.specs.Trace.{Fan, end, more, edge, Step, here, there, Trace, done, step, fans, removed_vertices}
use Rattle.theory_sphere.specs.Rotations.{tip-opp, org-rot, tip-rot}
use Rattle.theory_realizer.specs.Edges.{edge-org, edge-tip}

module _ (T : ℕ) (org opp x w b0 b1 : ℕ → ℕ) where
  -- A fan hands on: its new frontier darts carry the weights, the first of them also a and the last also b.
  abbrev pub Feeds : {last g : ℕ} {gs : List ℕ} → ℕ → ℕ → Fan T org opp last g gs → Type 0
  Feeds a b (end {g} h q) = x (edge T org opp g) ≡ w g + a + b
  Feeds a b (more {g} h f) = (x (edge T org opp g) ≡ w g + a) × Feeds 0 b f

  -- The system: where v leaves between l and r, with e from v to l and e' from r to v, b1 v is b1 l + x e, b0 v is b0 r + x e', and v's fan hands on
  -- x e and x e'. At the end v0 and v1 stand at their corners; x 2, on the last dart, is N.
  abbrev pub Solves : {C : List ℕ} → Trace T org opp C → Type 0
  Solves done = (b1 (org 0) ≡ 0) × (b0 (org 2) ≡ 0) × (b1 (org 2) ≡ x 2) × (b0 (org 0) ≡ x 2)
  Solves (step e e' gs h o f s tr) =
      (b1 (org e) ≡ b1 (org (next e)) + x e) × (b0 (org e) ≡ b0 (org e') + x e') × Feeds (x e) (x e') f × Solves tr

  -- GAP, of a frontier's dart; and both of its ends are inside
  pub record Gap (d : ℕ) : Type 0 where
    pub rise1 : b1 (org (next d)) + x d ≤ b1 (org d)
    pub rise0 : b0 (org d) + x d ≤ b0 (org (next d))
    pub inside : b0 (org d) + b1 (org d) ≤ x 2
    pub inside' : b0 (org (next d)) + b1 (org (next d)) ≤ x 2

  -- CORNERS, of a fan's dart g: its triangle's corners with the labels 0, 1, 2 are next g, prev g, g.
  pub record Corner (g : ℕ) : Type 0 where
    pub most0 : b0 (org (prev g)) + w g ≤ b0 (org (next g))
    pub most0' : b0 (org g) + w g ≤ b0 (org (next g))
    pub most1 : b1 (org (next g)) + w g ≤ b1 (org (prev g))
    pub most1' : b1 (org g) + w g ≤ b1 (org (prev g))
    pub most2 : b0 (org g) + b1 (org g) + w g ≤ b0 (org (next g)) + b1 (org (next g))
    pub most2' : b0 (org g) + b1 (org g) + w g ≤ b0 (org (prev g)) + b1 (org (prev g))

  -- what a fan gives on the way back: at v, with the carry a at its first dart g and b at its last, which leads to r
  pub record Fanned (v r a b g : ℕ) (gs : List ℕ) : Type 0 where
    pub corners : Every Corner gs
    pub first0 : b0 v + a ≤ b0 (org (next g))
    pub last1 : b1 v + b ≤ b1 r
    pub first_in : b0 (org (next g)) + b1 (org (next g)) ≤ x 2
    pub last_in : b0 r + b1 r ≤ x 2

module _ {n T : ℕ} {org opp : ℕ → ℕ} (sph : Sphere n T org opp) (x w b0 b1 : ℕ → ℕ) where
  -- GAP of a new frontier dart, at the vertices that its triangle has there
  edge_gap : (g : ℕ) → g < 3 * T → Gap T org opp x w b0 b1 (edge T org opp g) →
      (b1 (org (next g)) + x (edge T org opp g) ≤ b1 (org (prev g))) × (b0 (org (prev g)) + x (edge T org opp g) ≤ b0 (org (next g)))
      × (b0 (org (prev g)) + b1 (org (prev g)) ≤ x 2) × (b0 (org (next g)) + b1 (org (next g)) ≤ x 2)
  edge_gap g h k =
      let p0 = ap b0 (edge-tip sph g h) in
      let p1 = ap b1 (edge-tip sph g h) in
      let q0 = ap b0 (edge-org sph g h) in
      let q1 = ap b1 (edge-org sph g h) in
      omega arith

  -- A fan, from its last dart back to its first: GAP along its new darts gives its corners and what its two carries come to.
  fan_gaps : {last g : ℕ} {gs : List ℕ} (f : Fan T org opp last g gs) (v r a b : ℕ) → org (next last) ≡ r → org g ≡ v →
      b0 v ≡ b0 r + b → b1 v ≤ b1 (org (next g)) + a → Feeds T org opp x w b0 b1 a b f → Every (Gap T org opp x w b0 b1) (map (edge T org opp) gs) →
      Fanned T org opp x w b0 b1 v r a b g gs
  fan_gaps (end {g} h q) v r a b er ev e0 i1 eq gaps =
      let qr : org (prev g) ≡ r = sym (tip-rot sph g h) ∙ ap (λ (d : ℕ). org (next d)) q ∙ er in
      let k = edge_gap g h gaps.0 in
      let r0 = ap b0 qr in
      let r1 = ap b1 qr in
      let v0 = ap b0 ev in
      let v1 = ap b1 ev in
      omega arith
  fan_gaps (more {g} {gs} h f) v r a b er ev e0 i1 eq gaps =
      let k = edge_gap g h gaps.0 in
      let u0 = ap b0 (tip-rot sph g h) in
      let u1 = ap b1 (tip-rot sph g h) in
      let v0 = ap b0 ev in
      let v1 = ap b1 ev in
      let rest = fan_gaps f v r 0 b er (org-rot sph g h ∙ ev) e0 (omega arith) eq.1 gaps.1 in
      let first0 = rest.first0 in
      let here : Corner T org opp x w b0 b1 g = omega arith in
      record { corners = (here, rest.corners); first0 = omega arith; last1 = rest.last1; first_in = k.3; last_in = rest.last_in }

-- What every dart of a frontier has before a step and after it.
module _ {T : ℕ} {org opp : ℕ → ℕ} {e e' : ℕ} {gs : List ℕ} (P : ℕ → Type 0) where
  pub new-darts : {C C' : List ℕ} → Step T org opp e e' gs C C' → Every P C' → Every P (map (edge T org opp) gs)
  new-darts (here {B}) k = (every_split P (map (edge T org opp) gs) B k).0
  new-darts (there d s) k = new-darts s k.1

  pub old_darts : {C C' : List ℕ} → Step T org opp e e' gs C C' → P e → P e' → Every P C' → Every P C
  old_darts (here {B}) p q k = (p, (q, (every_split P (map (edge T org opp) gs) B k).1))
  old_darts (there d s) p q k = (k.0, old_darts s p q k.1)

module _ {n T : ℕ} {org opp : ℕ → ℕ} (sph : Sphere n T org opp) (x w b0 b1 : ℕ → ℕ) where
  -- a step: what the fan gives, and then the frontier before it
  step-fan : (e e' : ℕ) (gs : List ℕ) → e' < 3 * T → (f : Fan T org opp (opp e') e gs) →
      b1 (org e) ≡ b1 (org (next e)) + x e → b0 (org e) ≡ b0 (org e') + x e' → Feeds T org opp x w b0 b1 (x e) (x e') f →
      Every (Gap T org opp x w b0 b1) (map (edge T org opp) gs) → Fanned T org opp x w b0 b1 (org e) (org e') (x e) (x e') e gs
  step-fan e e' gs h f e1 e0 eq k = fan_gaps sph x w b0 b1 f (org e) (org e') (x e) (x e') (tip-opp sph e' h) refl e0 (omega arith) eq k

  step_gaps : {C C' : List ℕ} (e e' : ℕ) (gs : List ℕ) → e' < 3 * T → org e ≡ org (next e') → Step T org opp e e' gs C C' →
      b1 (org e) ≡ b1 (org (next e)) + x e → b0 (org e) ≡ b0 (org e') + x e' → Fanned T org opp x w b0 b1 (org e) (org e') (x e) (x e') e gs →
      Every (Gap T org opp x w b0 b1) C' → Every (Gap T org opp x w b0 b1) C
  step_gaps e e' gs h o s e1 e0 F k =
      let o0 = ap b0 o in
      let o1 = ap b1 o in
      let first0 = F.first0 in
      let last1 = F.last1 in
      let first_in = F.first_in in
      let last_in = F.last_in in
      let left : Gap T org opp x w b0 b1 e = omega arith in
      let right : Gap T org opp x w b0 b1 e' = omega arith in
      old_darts (Gap T org opp x w b0 b1) s left right k

  -- GAP: every dart of a frontier, at any stage of a peeling (each stage has a trace of its own)
  pub gaps : {C : List ℕ} (tr : Trace T org opp C) → Solves T org opp x w b0 b1 tr → Every (Gap T org opp x w b0 b1) C
  unfolding next
  gaps done eq = (omega arith, tt)
  gaps (step e e' gs h o f s tr) eq =
      let k = gaps tr eq.3 in
      step_gaps e e' gs h o s eq.0 eq.1 (step-fan e e' gs h f eq.0 eq.1 eq.2 (new-darts (Gap T org opp x w b0 b1) s k)) k

  -- CORNERS: every labelled triangle
  pub all-corners : {C : List ℕ} (tr : Trace T org opp C) → Solves T org opp x w b0 b1 tr → Every (Corner T org opp x w b0 b1) (fans T org opp tr)
  unfolding fans
  all-corners done eq = tt
  all-corners (step e e' gs h o f s tr) eq =
      let k = new-darts (Gap T org opp x w b0 b1) s (gaps tr eq.3) in
      every_append (Corner T org opp x w b0 b1) gs (fans T org opp tr) (step-fan e e' gs h f eq.0 eq.1 eq.2 k).corners (all-corners tr eq.3)

  -- INSIDE: every vertex that leaves
  pub all-inside : {C : List ℕ} (tr : Trace T org opp C) → Solves T org opp x w b0 b1 tr →
      Every (λ v. b0 v + b1 v ≤ x 2) (removed_vertices T org opp tr)
  unfolding removed_vertices
  all-inside done eq = tt
  all-inside (step e e' gs h o f s tr) eq =
      let F = step-fan e e' gs h f eq.0 eq.1 eq.2 (new-darts (Gap T org opp x w b0 b1) s (gaps tr eq.3)) in
      (omega (arith, F.first0, F.first_in, eq.0), all-inside tr eq.3)
