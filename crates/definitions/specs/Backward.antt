-- Document 01, "Backward": the weights that coordinates give. Definitions only.
use Rattle.std.specs.Prelude.{ℕ, ◌+◌, ◌*◌, get_or, ℤ, pos, ◌-ℤ◌}
use Rattle.std.proofs.Math.Bool.{cond}
use mathlib.Core.List.{List, map}
use Rattle.definitions.specs.Mesh.{next, prev, org, tip, opp, inner}
use Rattle.definitions.specs.Labels.{corner, points}

-- coordinate c of vertex i
unfoldable pub coordinate : List ℤ → ℕ → ℕ → ℤ
coordinate bs c i = get_or bs (3 * i + c) (pos 0)

module _ (ts ls : List ℕ) (bs : List ℤ) where
  -- by how much coordinate c is greater at the origin of dart d than at its tip
  unfoldable pub difference : ℕ → ℕ → ℤ
  unfolding coordinate org tip
  difference c d = coordinate bs c (org ts d) -ℤ coordinate bs c (tip ts d)

  -- s of the side of dart d, which runs from i to j as its colour points: b1(i) - b1(j) for colour 0, b0(i) - b0(j) for colour 1, 0 for colour 2.
  -- A rim side has two colours. Where rows 10 to 12 let the coordinates through, both give the same s.
  unfoldable pub slope : ℕ → ℤ
  unfolding points difference opp
  slope d =
      cond (points ts ls 0 d) (difference 1 d)
      (cond (points ts ls 0 (opp ts d)) (difference 1 (opp ts d))
      (cond (points ts ls 1 d) (difference 0 d)
      (cond (points ts ls 1 (opp ts d)) (difference 0 (opp ts d))
      (pos 0))))

  -- the weight of triangle t: s of the side opposite its corner 2, less s of its other two sides
  unfoldable pub weight_at : ℕ → ℤ
  unfolding corner next prev slope
  weight_at t = let d = corner ls t 2 in slope (next d) -ℤ slope d -ℤ slope (prev d)

  unfoldable pub backward : List ℤ
  unfolding weight_at inner
  backward = map weight_at (inner ts)
