-- A triangle is passed: it gets its label 2, and the dart across from the leaving vertex becomes the frontier's. Assumes nothing.
use Rattle.std.specs.Prelude.{ℕ, ◌*◌, ◌/◌, ◌%◌, ◌<◌, ◌≡◌, List, [], ◌∷◌, ◌++◌, length}
use Rattle.std.proofs.Math.Path.{ap}
use Rattle.std.proofs.Common.{sym, ◌∙◌, arith}
use Rattle.std.proofs.Math.Logic.{inl, inr}
use mathlib.Core.List.Memᴰ
use Rattle.std.proofs.Math.Decide.{ℕ_discrete}
use Rattle.definitions.specs.Mesh.{tri, next, prev, org, tip, opp}
use Rattle.laws.specs.Lists.{◌∈◌}
use Rattle.theory_sphere.specs.Sphere.{Sphere}
use Rattle.theory_sphere.specs.Darts.{next-next, prev-prev, next-below, prev-below, corner-cases}
use Rattle.theory_sphere.specs.Rotations.{tip-opp}
use Rattle.scratch_tables.specs.Tables.{upd, upd-at, upd_other}
use Rattle.labels_tables.specs.Peeling.{Peeling, set_apex, set_left, set_right}
use Rattle.labels_model.specs.Model.{add_frontier_dart, pass_triangle}
use Rattle.labels_model.specs.Counters.{Meshed}
use Rattle.labels_model.specs.LabelTriangle.{Coded}

-- one more dart is passed, whose triangle has no label yet
module _ (P : List ℕ) (t : Peeling) (c : Coded P t) (g : ℕ) (fresh : (prev g ∈ P → ⊥) × (next g ∈ P → ⊥)) where
  pub pass_coded : Coded (P ++ (g ∷ [])) (pass_triangle g t)
  unfolding pass_triangle add_frontier_dart set_left set_right set_apex
  pass_coded d m = elim (ℕ_discrete (tri d) (tri g)) [
    | yes q ↦ upd-at (tri g) (tri d) (g % 3) t.apex q ∙ elim (Memᴰ.append_cases P m) [
      | inl k ↦ elim (corner-cases g d q) [
        | inl e ↦ ap (λ (x : ℕ). x % 3) (sym e)
        | inr r ↦ elim r [ inl e ↦ absurd (fresh.1 (Memᴰ.cast (sym e) k)) | inr e ↦ absurd (fresh.0 (Memᴰ.cast (sym e) k)) ]
      ]
      | inr k ↦ ap (λ (x : ℕ). x % 3) (sym (Memᴰ.eq_of_singleton k))
    ]
    | no q ↦ upd_other (tri g) (tri d) (g % 3) t.apex q ∙ elim (Memᴰ.append_cases P m) [
      | inl k ↦ c d k
      | inr k ↦ absurd (q (ap tri (Memᴰ.eq_of_singleton k)))
    ]
  ]

module _ (n : ℕ) (ts : List ℕ) (s : Sphere n (length ts / 3) (org ts) (opp ts)) (len : 3 * (length ts / 3) ≡ length ts) (t : Peeling) (o : Meshed ts t)
    (g : ℕ) (h : g < 3 * (length ts / 3)) where
  abbrev T : ℕ
  T = length ts / 3

  abbrev x : ℕ
  x = opp ts (next g)

  pass_is : pass_triangle g t ≡ add_frontier_dart (org ts x) (tip ts x) x (set_apex (tri g) (g % 3) t)
  unfolding pass_triangle tip
  pass_is =
      let b = next-below T g h in
      let c = prev-below T g h in
      let from : org ts x ≡ org ts (prev g) = s.reverses (next g) b ∙ ap (org ts) (next-next g) in
      let across : t.turn (prev g) ≡ x = o.turns (prev g) (omega arith) ∙ ap (opp ts) (prev-prev g) in
      rw (across, o.origins (prev g) (omega arith), o.origins (next g) (omega arith), from, tip-opp s (next g) b)

  -- the frontier's dart that leaves a vertex, and the one that leads to it
  pub pass_left : (w : ℕ) → (pass_triangle g t).left w ≡ upd (org ts (opp ts (next g))) (opp ts (next g)) t.left w
  unfolding add_frontier_dart set_left set_right set_apex
  pass_left w = ap (λ (y : Peeling). y.left w) pass_is

  pub pass_right : (w : ℕ) → (pass_triangle g t).right w ≡ upd (tip ts (opp ts (next g))) (opp ts (next g)) t.right w
  unfolding add_frontier_dart set_left set_right set_apex
  pass_right w = ap (λ (y : Peeling). y.right w) pass_is
