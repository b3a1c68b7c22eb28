-- The new frontier dart across a fan's triangle, and its ends. Assumes nothing.
use Rattle.std.specs.Prelude.{ℕ, ◌*◌, ◌<◌, ◌≡◌, refl}
use Rattle.std.proofs.Common.{ap, ◌∙◌}
use Rattle.definitions.specs.Mesh.{next, prev}
use Rattle.theory_sphere.specs.Sphere.{Sphere}
use Rattle.theory_sphere.specs.Darts.{next-prev, next-next, next-below}
use Rattle.theory_sphere.specs.Rotations.{tip-opp}
use Rattle.theory_realizer.specs.Trace.{edge}

pub edge_is : (T : ℕ) (org opp : ℕ → ℕ) (g : ℕ) → edge T org opp g ≡ opp (next g)
unfolding edge
edge_is T org opp g = refl

module _ {n T : ℕ} {org opp : ℕ → ℕ} (s : Sphere n T org opp) where
  pub edge-org : (g : ℕ) → g < 3 * T → org (edge T org opp g) ≡ org (prev g)
  edge-org g b = ap org (edge_is T org opp g) ∙ s.reverses (next g) (next-below T g b) ∙ ap org (next-next g)

  pub edge-tip : (g : ℕ) → g < 3 * T → org (next (edge T org opp g)) ≡ org (next g)
  edge-tip g b = ap (λ (x : ℕ). org (next x)) (edge_is T org opp g) ∙ tip-opp s (next g) (next-below T g b)

  -- the fan's dart from the dart across
  pub edge_behind : (d : ℕ) → d < 3 * T → edge T org opp (prev (opp d)) ≡ d
  edge_behind d b = edge_is T org opp (prev (opp d)) ∙ ap opp (next-prev (opp d)) ∙ s.twice d b
