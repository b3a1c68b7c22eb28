-- The third demand, as far as sums and areas go: for every accepted mesh whose maps of unit weights satisfy `Units`. What it says of repair is in
-- proofs/, in `Demand` and `CallDemand`. Assumes nothing.
use Rattle.std.specs.Prelude.{ℕ, ◌≤◌, ◌<◌, ◌≡◌, ◌⊎◌, false, List, length, ℤ, pos, ◌+ℤ◌, ◌≤ℤ◌}
use Rattle.std.proofs.Common.{sym, ◌∙◌, arith}
use Rattle.definitions.specs.Lists.{total}
use Rattle.definitions.specs.Mesh.{triangles_length, weights_length, coordinates_length, org, inner}
use Rattle.definitions.specs.Forward.{weight, forward}
use Rattle.definitions.specs.Backward.{coordinate, backward}
use Rattle.definitions.specs.Repair.{bad}
use Rattle.definitions.specs.Answers.{done, refused, stopped_after}
use Rattle.definitions.specs.Refusals.{Accepted, AcceptedWeights, AcceptedCoordinates, row10, row11, row12, Repaired}
use Rattle.laws.specs.Lists.{◌∈◌}
use Rattle.theory_sphere.specs.Accept.{accepted_sphere}
use Rattle.theory_realizer.specs.Units.{Units}
use Rattle.theory_repair.specs.Coordinates.{inner_in, weight_in_lem, length-forward, coordinates_total}
use Rattle.theory_repair.specs.Bounds.{row10-forward, row11-forward, row12-forward}
use Rattle.theory_repair.specs.Areas.{positive_good}
use Rattle.theory_repair.specs.Additive.{plus, forward-plus}

-- ---- of the definitions

module _ (n : ℕ) (ts ls : List ℕ) (acc : Accepted n ts) (U : Units n ts ls) where
  pub least : 3 ≤ n
  least = (accepted_sphere n ts acc).least

  pub size : length ts ≡ triangles_length n
  size = acc.1

  pub seen : (d : ℕ) → d < 3 → org ts d < n
  seen d h = (accepted_sphere n ts acc).vertex d (omega (arith, least, size))

  -- The coordinates of accepted weights have the right number, and rows 10, 11 and 12 find nothing in them.
  pub accepted_forward : (ws : List ℤ) → AcceptedWeights n ws →
      (length (forward n ts ls ws) ≡ coordinates_length n)
      × (row10 (forward n ts ls ws) ≡ false)
      × (row11 ts (forward n ts ls ws) ≡ false)
      × (row12 n ts (forward n ts ls ws) ≡ false)
  accepted_forward ws (len, light) = (
    length-forward n ts ls ws,
    row10-forward n ts ls size U ws len light,
    row11-forward n ts ls size U ws len seen,
    row12-forward n ts ls size U ws len seen,
  )

  -- So, where the backward map gives the weights back, they are accepted coordinates.
  pub accepted_coordinates : (ws : List ℤ) → AcceptedWeights n ws → backward ts ls (forward n ts ls ws) ≡ ws →
      AcceptedCoordinates n ts ls (forward n ts ls ws)
  accepted_coordinates ws w back =
      let r = accepted_forward ws w in
      (r.0, r.1, r.2, r.3, rw back w.1)

  -- Added weights have added coordinates.
  pub added : (ws ws' : List ℤ) → length ws ≡ weights_length n → length ws' ≡ weights_length n →
      forward n ts ls (plus ws ws') ≡ plus (forward n ts ls ws) (forward n ts ls ws')
  added ws ws' len len' = forward-plus n ts ls ws ws' (len ∙ sym len')

  -- b0 + b1 + b2 is N at every vertex.
  pub summed : (ws : List ℤ) (i : ℕ) → i < n →
      coordinate (forward n ts ls ws) 0 i +ℤ coordinate (forward n ts ls ws) 1 i +ℤ coordinate (forward n ts ls ws) 2 i ≡ total ws
  summed ws i h = coordinates_total n ts ls ws i h

  -- With weights of 1 and more every inner area number is positive.
  pub upright : (ws : List ℤ) → length ws ≡ weights_length n → ((w : ℤ) → w ∈ ws → pos 1 ≤ℤ w) → (t : ℕ) → t ∈ inner ts →
      bad ts ls (forward n ts ls ws) t ≡ false
  upright ws len ones t m =
      let r = inner_in n ts least size m in
      positive_good n ts ls size U ws len (λ u h k. ones (weight ws u) (weight_in_lem ws u h (omega arith))) t r.0 r.1

-- ---- of the public call

-- it answers a count: done, or with 13
abbrev pub Counts : Repaired → ℕ → Type 0
Counts r count = (r.answer ≡ done count) ⊎ (r.answer ≡ refused (stopped_after count))
