-- Document 02, C-13, for every accepted mesh with its labels, whichever triangle is the outer one: where rows 11 and 12 let the coordinates through, the eight
-- cases give the weights of the backward map, whichever way each rim side is counted. Assumes nothing. (Row 10 is not needed.)
use Rattle.std.specs.Prelude.{ℕ, ◌-◌, ◌*◌, ◌/◌, ◌<◌, ◌≡◌, Bool, false, List, length, ℤ}
use Rattle.std.proofs.Common.{arith}
use Rattle.definitions.specs.Mesh.{fronted}
use Rattle.definitions.specs.Labels.{labels}
use Rattle.definitions.specs.Backward.{backward}
use Rattle.definitions.specs.Directions.{backward_by_cases}
use Rattle.definitions.specs.Refusals.{Accepted, row11, row12}
use Rattle.theory_sphere.specs.FrontedRows.{accepted_fronted}
use Rattle.theory_inverse.specs.Directions.{backward-by-cases}
use Rattle.theory_demand.specs.Demand.{sphere, realizer_of_labels}

pub eight_cases_lem : (n outer_place : ℕ) (ts : List ℕ) → Accepted n ts → outer_place < 2 * n - 4 → (bs : List ℤ) →
    let mesh = fronted outer_place ts in
    row11 mesh bs ≡ false → row12 n mesh bs ≡ false →
    (either : ℕ → Bool) → backward_by_cases either mesh (labels n mesh) bs ≡ backward mesh (labels n mesh) bs
eight_cases_lem n outer_place ts accepted there bs off sums either =
    let mesh = fronted outer_place ts in
    let acc = accepted_fronted n outer_place ts there accepted in
    let whole : length mesh ≡ 3 * (length mesh / 3) = omega (arith, acc.1) in
    backward-by-cases mesh (labels n mesh) (sphere n mesh acc) whole (realizer_of_labels n mesh acc) bs off sums either
