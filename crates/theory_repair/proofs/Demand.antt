-- The third demand, as far as repair goes: of the definitions, for every accepted mesh whose maps of unit weights satisfy `Units`. Assumes nothing.
use Rattle.std.specs.Prelude.{ℕ, ◌*◌, ◌-◌, ◌≤◌, ◌<◌, ◌≡◌, ◌≢◌, false, List, length, ℤ, pos, ◌≤ℤ◌}
use Rattle.definitions.specs.Lists.{total, total_abs}
use Rattle.definitions.specs.Mesh.{weights_length, inner}
use Rattle.definitions.specs.Forward.{forward}
use Rattle.definitions.specs.Repair.{limit, bad, add_to, finished, stopped, out_of_fuel, repair, changed}
use Rattle.definitions.specs.Refusals.{Accepted, row9}
use Rattle.laws.specs.Lists.{◌∈◌}
use Rattle.laws.specs.Counting.{Distinct}
use Rattle.theory_realizer.specs.Units.{Units}
use Rattle.theory_repair.specs.Coordinates.{inner_in, in_inner}
use Rattle.theory_repair.specs.Repairs.{NextRaise, Outcome}
use Rattle.theory_repair.specs.Demand.{least, size}
use Rattle.theory_repair.proofs.Repairs.{few, repair-outcome}

module _ (n : ℕ) (ts ls : List ℕ) (acc : Accepted n ts) (U : Units n ts ls) where
  module _ (ws : List ℤ) (len : length ws ≡ weights_length n) where
    outcome : Outcome n ts ls ws (repair n ts ls ws)
    outcome = repair-outcome n ts ls (least n ts ls acc U) (size n ts ls acc U) U ws len

    -- Repair ends by itself: its fuel does not run out.
    pub terminates : (repair n ts ls ws).ending ≢ out_of_fuel
    terminates = outcome.ends

    -- It raises inner triangles, none of them a second time, and at most 2n - 5 in all.
    pub raises_inner : (t : ℕ) → t ∈ (repair n ts ls ws).raises → t ∈ inner ts
    raises_inner t m = let r = outcome.loop.ours t m in in_inner n ts (least n ts ls acc U) (size n ts ls acc U) t r.0 r.1

    pub raises_once : Distinct (repair n ts ls ws).raises
    raises_once = outcome.loop.once

    pub raises_few : length (repair n ts ls ws).raises ≤ 2 * n - 5
    raises_few = few n ts ls (least n ts ls acc U) (size n ts ls acc U) U ws len (repair n ts ls ws).weights (repair n ts ls ws).raises outcome.loop

    -- There are as many raises as changed weights, however it ends.
    pub raises_changed : length (changed ts ws (repair n ts ls ws).weights) ≡ length (repair n ts ls ws).raises
    raises_changed = outcome.loop.count

    -- Where it comes to its end no inner triangle is bad.
    pub finished_upright : (repair n ts ls ws).ending ≡ finished → (t : ℕ) → t ∈ inner ts →
        bad ts ls (forward n ts ls (repair n ts ls ws).weights) t ≡ false
    finished_upright e t m = let r = inner_in n ts (least n ts ls acc U) (size n ts ls acc U) m in outcome.mends e t r.0 r.1

    -- There the total of the weights is 1 or more.
    pub finished-total : (repair n ts ls ws).ending ≡ finished → pos 1 ≤ℤ total (repair n ts ls ws).weights
    finished-total e = outcome.totals e

    -- Where it stops there is a raise that comes next, and with it row 9 would find the weights too large.
    pub stopped_rightly : (repair n ts ls ws).ending ≡ stopped →
        (t : ℕ)
        × (x : ℤ)
        × NextRaise n ts ls (repair n ts ls ws).weights (length (repair n ts ls ws).raises) t x
        × (limit < total_abs (add_to (repair n ts ls ws).weights t x))
    stopped_rightly e = outcome.stops e

    -- The weights keep their number, and stay such that row 9 lets them through.
    pub repair-length : length (repair n ts ls ws).weights ≡ length ws
    repair-length = outcome.loop.length_kept

    pub repair_light : row9 ws ≡ false → row9 (repair n ts ls ws).weights ≡ false
    repair_light h = outcome.loop.light h
