-- Loops that take a step until a test passes: that one ends, and how many steps are left. Assumes nothing.
use Prim.Native.Nat.{ℕ, zero, suc, ◌<◌}
use Rattle.std.specs.Prelude.{◌≡◌, refl, Bool, true, false, cond}
use Rattle.std.proofs.Common.{arith}
use Rattle.laws.specs.Lists.{clash}

-- so many steps from d, or `most` where none of them passes the test
unfoldable pub steps_to : (ℕ → ℕ) → (ℕ → Bool) → ℕ → ℕ → ℕ
steps_to step stop zero d = 0
steps_to step stop (suc most) d = cond (stop d) 0 (suc (steps_to step stop most (step d)))

-- the test passes first after k steps
abbrev pub Stops : (ℕ → ℕ) → (ℕ → Bool) → ℕ → ℕ → Type 0
Stops step stop zero d = stop d ≡ true
Stops step stop (suc k) d = (stop d ≡ false) × Stops step stop k (step d)

pub record Ends (step : ℕ → ℕ) (stop : ℕ → Bool) (most d : ℕ) : Type 0 where
  pub left : ℕ
  pub few : left < most
  pub stops : Stops step stop left d

module _ (step : ℕ → ℕ) (stop : ℕ → Bool) where
  steps_are : (k most d : ℕ) → k < most → Stops step stop k d → steps_to step stop most d ≡ k
  unfolding steps_to
  steps_are k zero d h s = absurd (omega arith)
  steps_are zero (suc most) d h s = rw s
  steps_are (suc k) (suc most) d h s = let e = steps_are k most (step d) (omega arith) s.1 in rw (s.0, e)

  go_on : (k d : ℕ) → stop d ≡ false → Stops step stop k d → (j : ℕ) × (suc j ≡ k) × Stops step stop j (step d)
  go_on zero d e s = clash s e
  go_on (suc k) d e s = (k, refl, s.1)

  module _ {most d : ℕ} (e : Ends step stop most d) (more : stop d ≡ false) where
    -- with one step fewer
    pub goes_on : (r : Ends step stop most (step d)) × (suc r.left ≡ e.left)
    goes_on =
        let g = go_on e.left d more e.stops in
        (record { left = g.0; few = omega (arith, g.1, e.few); stops = g.2 }, g.1)

    pub steps_less : steps_to step stop most (step d) < steps_to step stop most d
    steps_less =
        let r = goes_on.0 in
        omega (
          arith,
          steps_are e.left most d e.few e.stops,
          steps_are r.left most (step d) r.few r.stops,
          goes_on.1,
        )
