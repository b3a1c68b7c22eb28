-- Document 02, C-13: the weight of a triangle, chosen from eight cases by the direction of its three sides. Definitions only.
use Rattle.std.specs.Prelude.{ℕ, Bool, true, false, ℤ, ◌-ℤ◌}
use Rattle.std.proofs.Math.Bool.{cond}
use mathlib.Core.List.{List, map}
use Rattle.definitions.specs.Lists.{any, upto}
use Rattle.definitions.specs.Mesh.{org, inner}
use Rattle.definitions.specs.Labels.{outer, corner, rim, points}
use Rattle.definitions.specs.Backward.{coordinate}

-- The corners with labels 0, 1, 2 are at the vertices p, q, r, and b c i is coordinate c of vertex i. The three answers tell whether the side of p and q
-- runs from p to q, that of q and r from q to r, and that of r and p from r to p.
-- Six cases have a corner that two sides leave and one between: its own coordinate there, less the same coordinate at the one between. In the first and the
-- last the sides run in a circle: N, less each corner's own coordinate at the corner that its side runs to.
unfoldable pub eight_cases : (ℕ → ℕ → ℤ) → ℤ → ℕ → ℕ → ℕ → Bool → Bool → Bool → ℤ
eight_cases b N p q r false false false = N -ℤ b 0 r -ℤ b 1 p -ℤ b 2 q
eight_cases b N p q r false false true = b 2 r -ℤ b 2 q
eight_cases b N p q r false true false = b 1 q -ℤ b 1 p
eight_cases b N p q r false true true = b 1 q -ℤ b 1 r
eight_cases b N p q r true false false = b 0 p -ℤ b 0 r
eight_cases b N p q r true false true = b 2 r -ℤ b 2 p
eight_cases b N p q r true true false = b 0 p -ℤ b 0 q
eight_cases b N p q r true true true = N -ℤ b 0 q -ℤ b 1 r -ℤ b 2 p

module _ (either : ℕ → Bool) (ts ls : List ℕ) where
  -- The side of dart d runs to the tip of d: it has a colour that points there. A rim side has one towards each end, and counts as `either` says.
  unfoldable pub runs : ℕ → Bool
  unfolding rim points any upto
  runs d = cond (rim ts d) (either d) (any (λ c. points ts ls c d) (upto 3))

  module _ (bs : List ℤ) where
    -- the weight of triangle t; N is b0 of v0
    unfoldable pub weight_by_case : ℕ → ℤ
    unfolding eight_cases coordinate outer org corner runs
    weight_by_case t =
        let d = corner ls t 0 in
        let e = corner ls t 1 in
        let g = corner ls t 2 in
        eight_cases (coordinate bs) (coordinate bs 0 (outer ts 0)) (org ts d) (org ts e) (org ts g) (runs d) (runs e) (runs g)

    unfoldable pub backward_by_cases : List ℤ
    unfolding weight_by_case inner
    backward_by_cases = map weight_by_case (inner ts)
