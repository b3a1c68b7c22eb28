-- Opposites and rotations round a vertex on a sphere. Assumes nothing.
use Rattle.std.specs.Prelude.{ℕ, zero, suc, ◌+◌, ◌*◌, ◌<◌, ◌≡◌, refl, ◌≢◌, ◌⊎◌}
use Rattle.std.proofs.Common.{sym, ap, ◌∙◌, inl, inr, arith}
use Rattle.definitions.specs.Mesh.{tri, next, prev}
use Rattle.theory_sphere.specs.Sphere.{Sphere, rotate}
use Rattle.theory_sphere.specs.Darts.{next-prev, next-next, next-below, prev-below, corner-cases}
use Rattle.theory_sphere.specs.Sides as Sides
use Rattle.theory_sphere.specs.Sides.{sphere_sides}

pub rotate-none : (opp : ℕ → ℕ) (d : ℕ) → rotate opp 0 d ≡ d
unfolding rotate
rotate-none opp d = refl

pub rotate-suc : (opp : ℕ → ℕ) (k d : ℕ) → rotate opp (suc k) d ≡ opp (prev (rotate opp k d))
unfolding rotate
rotate-suc opp zero d = refl
rotate-suc opp (suc k) d = rotate-suc opp k (opp (prev d))

pub rotate-add : (opp : ℕ → ℕ) (j k d : ℕ) → rotate opp (j + k) d ≡ rotate opp k (rotate opp j d)
unfolding rotate
rotate-add opp zero k d = let e : zero + k ≡ k = omega arith in rw e
rotate-add opp (suc j) k d = let e : suc j + k ≡ suc (j + k) = omega arith in rw e (rotate-add opp j k (opp (prev d)))

module _ {n T : ℕ} {org opp : ℕ → ℕ} (s : Sphere n T org opp) where
  pub opp-moves : (d : ℕ) → d < 3 * T → opp d ≢ d
  opp-moves d h = Sides.opp-other (sphere_sides s) d h

  -- the tip of the opposite dart
  pub tip-opp : (d : ℕ) → d < 3 * T → org (next (opp d)) ≡ org d
  tip-opp d h = Sides.back (sphere_sides s) d h

  -- a rotation keeps the origin
  pub org-rot : (d : ℕ) → d < 3 * T → org (opp (prev d)) ≡ org d
  org-rot d h = Sides.rot-org (sphere_sides s) d h

  pub rot-below : (d : ℕ) → d < 3 * T → opp (prev d) < 3 * T
  rot-below d h = Sides.rot-below (sphere_sides s) d h

  -- and leads to the dart whose tip is the third corner
  pub tip-rot : (d : ℕ) → d < 3 * T → org (next (opp (prev d))) ≡ org (prev d)
  tip-rot d h = tip-opp (prev d) (prev-below T d h)

  pub opp-rot : (d : ℕ) → d < 3 * T → opp (opp (prev d)) ≡ prev d
  opp-rot d h = s.twice (prev d) (prev-below T d h)

  pub rotate-below : (k d : ℕ) → d < 3 * T → rotate opp k d < 3 * T
  rotate-below k d h = Sides.rotate-below (sphere_sides s) k d h

  pub org-rotate : (k d : ℕ) → d < 3 * T → org (rotate opp k d) ≡ org d
  org-rotate k d h = Sides.rotate-org (sphere_sides s) k d h

  -- the two triangles beside a side differ
  pub across : (d : ℕ) → d < 3 * T → tri (opp d) ≢ tri d
  across d h t = go (corner-cases d (opp d) t)
    where
      go : (opp d ≡ d) ⊎ (opp d ≡ next d) ⊎ (opp d ≡ prev d) → ⊥
      go (inl e) = opp-moves d h e
      go (inr (inl e)) =
          s.proper (prev d) (prev-below T d h) (ap org (sym (next-next d)) ∙ sym (ap (λ (x : ℕ). org (next x)) e) ∙ tip-opp d h
          ∙ ap org (sym (next-prev d)))
      go (inr (inr e)) = s.proper (next d) (next-below T d h) (sym (s.reverses d h) ∙ ap org e ∙ ap org (sym (next-next d)))
