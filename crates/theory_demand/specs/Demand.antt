-- The third demand, for every accepted mesh on n vertices and every choice of the outer triangle (C-12): one record, a line for each sentence of the request,
-- in its order. Acceptance, labels, maps, repair, raises and refusal 13 are the definitions of document 01; whether a mesh is accepted does not depend on the
-- outer triangle (crate `theory_sphere`, `rows-fronted`). Assumes nothing.
use Rattle.std.specs.Prelude.{ℕ, ◌*◌, ◌-◌, ◌/◌, ◌≤◌, ◌<◌, ◌≡◌, ◌≢◌, false, List, ℤ, pos, ◌+ℤ◌, ◌≤ℤ◌}
use Rattle.std.proofs.Math.Path.{ap}
use Rattle.std.proofs.Common.{◌∙◌}
use Rattle.std.proofs.Math.ListN.{length, length-map}
use Rattle.definitions.specs.Lists.{total}
use Rattle.definitions.specs.Mesh.{weights_length, inner, org, opp, fronted}
use Rattle.definitions.specs.Labels.{labels, label, outer}
use Rattle.definitions.specs.Forward.{forward}
use Rattle.definitions.specs.Backward.{coordinate, weight_at, backward}
use Rattle.definitions.specs.Repair.{bad, repair, out_of_fuel, changed}
use Rattle.definitions.specs.Answers.{done}
use Rattle.definitions.specs.Refusals.{Accepted, AcceptedWeights, AcceptedCoordinates, repair_call}
use Rattle.laws.specs.Lists.{◌∈◌, length-range}
use Rattle.laws.specs.Counting.{Distinct}
use Rattle.theory_sphere.specs.Sphere.{Sphere}
use Rattle.theory_sphere.specs.Accept.{accepted_sphere}
use Rattle.theory_sphere.specs.FrontedRows.{accepted_fronted}
use Rattle.theory_realizer.specs.Realizer.{Realizer}
use Rattle.theory_realizer.specs.Units.{Units}
use Rattle.theory_peeling.specs.Labelled.{realizer}
use Rattle.theory_crossings.specs.UnitMaps.{units}
use Rattle.theory_repair.specs.Coordinates.{inner-range}
use Rattle.theory_repair.specs.Additive.{plus}
use Rattle.theory_repair.specs.Demand as RepairTheory
use Rattle.theory_repair.specs.Demand.{Counts}
use Rattle.theory_repair.proofs.Demand as RepairProofs
use Rattle.theory_repair.proofs.CallDemand as CallProofs
use Rattle.theory_inverse.specs.RoundTrips.{forward-backward, backward-forward}

module _ (n outer_place : ℕ) (ts : List ℕ) where
  -- the mesh as the calls read it, its outer triangle in front, and its labels
  abbrev mesh : List ℕ
  mesh = fronted outer_place ts

  abbrev ls : List ℕ
  ls = labels n mesh

  pub record Demand : Type 0 where
    -- Accepted weights give accepted coordinates, and these give the weights back.
    pub weights_return : (ws : List ℤ) → AcceptedWeights n ws →
        AcceptedCoordinates n mesh ls (forward n mesh ls ws) × (backward mesh ls (forward n mesh ls ws) ≡ ws)
    -- Accepted coordinates give accepted weights, and these give the coordinates back.
    pub coordinates_return : (bs : List ℤ) → AcceptedCoordinates n mesh ls bs →
        AcceptedWeights n (backward mesh ls bs) × (forward n mesh ls (backward mesh ls bs) ≡ bs)
    -- Where two weight lists and their sum, triangle by triangle, are accepted, the coordinates of the sum are the sums of the coordinates.
    pub sums_add : (ws us : List ℤ) → AcceptedWeights n ws → AcceptedWeights n us → AcceptedWeights n (plus ws us) →
        forward n mesh ls (plus ws us) ≡ plus (forward n mesh ls ws) (forward n mesh ls us)
    -- The three coordinates of each vertex sum to the total of the weights.
    pub sums_total : (ws : List ℤ) → AcceptedWeights n ws → (i : ℕ) → i < n →
        let bs = forward n mesh ls ws in coordinate bs 0 i +ℤ coordinate bs 1 i +ℤ coordinate bs 2 i ≡ total ws
    -- With all weights at least 1, no inner triangle is flat or turned.
    pub upright : (ws : List ℤ) → AcceptedWeights n ws → ((w : ℤ) → w ∈ ws → pos 1 ≤ℤ w) → (t : ℕ) → t ∈ inner mesh →
        bad mesh ls (forward n mesh ls ws) t ≡ false
    -- Whatever weights repair gets, it raises no triangle twice and makes at most 2n - 5 raises, of inner triangles; and it comes to an end by itself.
    pub raises_once : (ws : List ℤ) → length ws ≡ weights_length n → Distinct (repair n mesh ls ws).raises
    pub raises_few : (ws : List ℤ) → length ws ≡ weights_length n → length (repair n mesh ls ws).raises ≤ 2 * n - 5
    pub raises_inner : (ws : List ℤ) → length ws ≡ weights_length n → (t : ℕ) → t ∈ (repair n mesh ls ws).raises → t ∈ inner mesh
    pub ends : (ws : List ℤ) → length ws ≡ weights_length n → (repair n mesh ls ws).ending ≢ out_of_fuel
    -- Any count that the call answers, done or with 13, is the number of its raises and the number of weights it changed.
    pub count_raises : (ws bs scratch : List ℤ) (count : ℕ) → Counts (repair_call n outer_place ts ws bs scratch) count →
        count ≡ length (repair n mesh ls ws).raises
    pub count_changed : (ws bs scratch : List ℤ) (count : ℕ) → Counts (repair_call n outer_place ts ws bs scratch) count →
        count ≡ length (changed mesh ws (repair_call n outer_place ts ws bs scratch).weights)
    -- Where the call is not refused, it leaves no inner triangle flat or turned.
    pub repaired_upright : (ws bs scratch : List ℤ) (count : ℕ) → (repair_call n outer_place ts ws bs scratch).answer ≡ done count →
        (t : ℕ) → t ∈ inner mesh → bad mesh ls (repair_call n outer_place ts ws bs scratch).coordinates t ≡ false
    -- There too, the total of the weights that it leaves is 1 or more (C-21).
    pub repaired_total : (ws bs scratch : List ℤ) (count : ℕ) → (repair_call n outer_place ts ws bs scratch).answer ≡ done count →
        pos 1 ≤ℤ total (repair_call n outer_place ts ws bs scratch).weights

-- ---- an accepted mesh, its outer triangle in front, always has labels that keep the rules, and so unit maps

module _ (n : ℕ) (ts : List ℕ) (acc : Accepted n ts) where
  pub sphere : Sphere n (length ts / 3) (org ts) (opp ts)
  sphere = accepted_sphere n ts acc

  pub realizer_of_labels : Realizer n (length ts / 3) (org ts) (opp ts) (label (labels n ts)) (outer ts)
  realizer_of_labels = realizer n ts sphere acc.1

  pub maps : Units n ts (labels n ts)
  maps = units ts (labels n ts) sphere acc.1 realizer_of_labels

  back : (ws : List ℤ) → AcceptedWeights n ws → backward ts (labels n ts) (forward n ts (labels n ts) ws) ≡ ws
  back ws w = forward-backward ts (labels n ts) sphere acc.1 realizer_of_labels ws w.0

  -- the backward map gives a weight for each inner triangle
  weights-number : (bs : List ℤ) → length (backward ts (labels n ts) bs) ≡ weights_length n
  unfolding backward
  weights-number bs = length-map (inner ts) (weight_at ts (labels n ts) bs) ∙ ap length (inner-range n ts acc.1) ∙ length-range 1 (weights_length n)

-- The third demand holds.
pub demand : (n outer_place : ℕ) (ts : List ℕ) → Accepted n ts → outer_place < 2 * n - 4 → Demand n outer_place ts
demand n outer_place ts accepted there =
    let mesh = fronted outer_place ts in
    let ls = labels n mesh in
    let acc = accepted_fronted n outer_place ts there accepted in
    let S = sphere n mesh acc in
    let R = realizer_of_labels n mesh acc in
    let U = maps n mesh acc in
    record {
      weights_return = λ ws w. let e = back n mesh acc ws w in (RepairTheory.accepted_coordinates n mesh ls acc U ws w e, e);
      coordinates_return = λ bs b. ((weights-number n mesh acc bs, b.4), backward-forward mesh ls S acc.1 R bs b.0 b.2 b.3);
      sums_add = λ ws us w u s. RepairTheory.added n mesh ls acc U ws us w.0 u.0;
      sums_total = λ ws w i h. RepairTheory.summed n mesh ls acc U ws i h;
      upright = λ ws w ones t m. RepairTheory.upright n mesh ls acc U ws w.0 ones t m;
      raises_once = RepairProofs.raises_once n mesh ls acc U;
      raises_few = RepairProofs.raises_few n mesh ls acc U;
      raises_inner = RepairProofs.raises_inner n mesh ls acc U;
      ends = RepairProofs.terminates n mesh ls acc U;
      count_raises = λ ws bs scratch. CallProofs.count_raises n outer_place ts (λ _. U) ws bs scratch;
      count_changed = λ ws bs scratch. CallProofs.count_changed n outer_place ts (λ _. U) ws bs scratch;
      repaired_upright = λ ws bs scratch. CallProofs.done_upright n outer_place ts (λ _. U) ws bs scratch;
      repaired_total = λ ws bs scratch. CallProofs.done-total n outer_place ts (λ _. U) ws bs scratch;
    }
