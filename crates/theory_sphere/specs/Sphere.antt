-- The facts of an accepted mesh. All later theory starts from this record and never looks at the tests of acceptance again. Assumes nothing.
-- T is the number of triangles, `org` gives a dart's origin and `opp` the dart of its opposite side.
use Rattle.std.specs.Prelude.{ℕ, zero, suc, ◌+◌, ◌*◌, ◌≤◌, ◌<◌, ◌≡◌, ◌≢◌}
use Rattle.definitions.specs.Mesh.{tri, next, prev}
use Rattle.laws.specs.Chain.{Chain}

-- k rotations round the origin of d
unfoldable pub rotate : (ℕ → ℕ) → ℕ → ℕ → ℕ
unfolding prev
rotate opp zero d = d
rotate opp (suc k) d = rotate opp k (opp (prev d))

pub record Sphere (n T : ℕ) (org opp : ℕ → ℕ) : Type 0 where
  -- with as many triangles as a sphere has
  pub least : 3 ≤ n
  pub size : T + 4 ≡ 2 * n
  pub vertex : (d : ℕ) → d < 3 * T → org d < n
  -- every side has its opposite
  pub dart : (d : ℕ) → d < 3 * T → opp d < 3 * T
  pub twice : (d : ℕ) → d < 3 * T → opp (opp d) ≡ d
  pub reverses : (d : ℕ) → d < 3 * T → org (opp d) ≡ org (next d)
  -- no vertex is twice in a triangle, and no side is there twice
  pub proper : (d : ℕ) → d < 3 * T → org d ≢ org (next d)
  pub once : (d e : ℕ) → d < 3 * T → e < 3 * T → org d ≡ org e → org (next d) ≡ org (next e) → d ≡ e
  -- one ring round each vertex
  pub used : (v : ℕ) → v < n → (d : ℕ) × (d < 3 * T) × (org d ≡ v)
  pub ring : (d e : ℕ) → d < 3 * T → e < 3 * T → org d ≡ org e → (k : ℕ) × (rotate opp k d ≡ e)
  -- one piece
  pub joined : (t : ℕ) → t < T → Chain (λ d. d < 3 * T) tri (λ d. tri (opp d)) 0 t
