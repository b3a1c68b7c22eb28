-- The third demand, as far as repair goes: of the public call, on whatever slices it is lent, for every accepted mesh whose maps of unit weights satisfy
-- `Units`. Assumes nothing.
use Rattle.std.specs.Prelude.{ℕ, ◌*◌, ◌-◌, ◌≤◌, ◌<◌, ◌≡◌, refl, ◌≢◌, ◌⊎◌, true, false, List, [], ◌∷◌, length, ℤ, pos, ◌≤ℤ◌}
use Rattle.std.proofs.Common.{ap, sym, ◌∙◌, inl, inr, arith, lt-ltb}
use Rattle.std.proofs.Math.Option.{Option, none, some}
use Rattle.definitions.specs.Lists.{total, total_abs}
use Rattle.definitions.specs.Mesh.{weights_length, coordinates_length, inner, fronted}
use Rattle.definitions.specs.Labels.{labels, outer}
use Rattle.definitions.specs.Forward.{forward}
use Rattle.definitions.specs.Backward.{coordinate}
use Rattle.definitions.specs.Repair.{limit, bad, add_to, finished, repair, changed}
use Rattle.definitions.specs.Answers.{done, refused, numbered, stopped_after, Refusal, row}
use Rattle.definitions.specs.Refusals.{Accepted, AcceptedWeights, slice, row9, row10, Repaired, repair_answer, repair_call}
use Rattle.laws.specs.Lists.{◌∈◌}
use Rattle.laws.specs.Counting.{Distinct}
use Rattle.theory_sphere.specs.FirstRefusal.{row-none, refusal-cons, call_refusal-none}
use Rattle.theory_realizer.specs.Units.{Units}
use Rattle.theory_repair.specs.Bounds.{outer-total}
use Rattle.theory_repair.specs.Calls.{found, answer_at, call-answer, call-weights, call_coordinates, found_accepted, found_only, to_answer}
use Rattle.theory_repair.specs.Calls.{to_answer_zero, finished_well, stopped_early}
use Rattle.theory_repair.specs.Repairs.{NextRaise}
use Rattle.theory_repair.specs.Demand.{size, seen, accepted_forward, Counts}
use Rattle.theory_repair.proofs.Demand.{terminates, raises_once, raises_few, raises_changed, finished_upright, finished-total}
use Rattle.theory_repair.proofs.Demand.{stopped_rightly, repair-length, repair_light}

over : (ws : List ℤ) → limit < total_abs ws → row9 ws ≡ true
unfolding row9
over ws h = lt-ltb limit (total_abs ws) h

-- then its rows let it go on
went_on : (n outer_place : ℕ) (ts : List ℕ) (ws bs scratch : List ℤ) (count : ℕ) → Counts (repair_call n outer_place ts ws bs scratch) count →
    found n outer_place ts ws bs scratch ≡ none
went_on n outer_place ts ws bs scratch count h = go (found n outer_place ts ws bs scratch) refl (rw (call-answer n outer_place ts ws bs scratch) at h)
  where
    go : (o : Option Refusal) → found n outer_place ts ws bs scratch ≡ o → (answer_at n outer_place ts ws bs scratch o ≡ done count)
        ⊎ (answer_at n outer_place ts ws bs scratch o ≡ refused (stopped_after count)) →
        found n outer_place ts ws bs scratch ≡ none
    go none e q = e
    go (some why) e (inl q) = let z : ◌≡◌ {A = ℕ} 0 1 = cc in absurd (omega arith)
    go (some why) e (inr q) = let z : why ≡ stopped_after count = cc in absurd (found_only n outer_place ts ws bs scratch (stopped_after count) (e ∙ ap some z))

module _ (n outer_place : ℕ) (ts : List ℕ) where
  -- the mesh as it is read
  abbrev mesh : List ℕ
  mesh = fronted outer_place ts

  module _ (units : Accepted n mesh → Units n mesh (labels n mesh)) (ws bs scratch : List ℤ) where
    abbrev call : Repaired
    call = repair_call n outer_place ts ws bs scratch

    module _ (count : ℕ) (told-it : Counts call count) where
      on : found n outer_place ts ws bs scratch ≡ none
      on = went_on n outer_place ts ws bs scratch count told-it

      acc : Accepted n mesh
      acc = (found_accepted n outer_place ts ws bs scratch on).0

      len : length ws ≡ weights_length n
      len = (found_accepted n outer_place ts ws bs scratch on).1

      -- It was lent weights that 9 lets through; those that it leaves are accepted, and the coordinates that it leaves are theirs.
      light : row9 ws ≡ false
      light =
          let slices = slice (length ws) (weights_length n) ∷ slice (length bs) (coordinates_length n) ∷ [] in
          let own = row 9 (λ _. row9 ws) in
          row-none 9 (λ _. row9 ws) (refusal-cons own [] (call_refusal-none n outer_place ts scratch slices (own ∷ []) on).4).0

      pub count-weights : AcceptedWeights n call.weights
      count-weights =
          let ls = labels n mesh in
          rw (call-weights n outer_place ts ws bs scratch, on)
          (repair-length n mesh ls acc (units acc) ws len ∙ len, repair_light n mesh ls acc (units acc) ws len light)

      pub count_coordinates : call.coordinates ≡ forward n mesh (labels n mesh) call.weights
      count_coordinates = rw (call_coordinates n outer_place ts ws bs scratch, call-weights n outer_place ts ws bs scratch, on) refl

      -- So 10 finds nothing in them, and b0 of v0 is their total.
      pub count_limits : row10 call.coordinates ≡ false
      count_limits = rw count_coordinates (accepted_forward n mesh (labels n mesh) acc (units acc) call.weights count-weights).1

      pub count-total : coordinate call.coordinates 0 (outer mesh 0) ≡ total call.weights
      count-total =
          rw (count_coordinates)
          (outer-total n mesh (labels n mesh) (size n mesh (labels n mesh) acc (units acc)) (units acc) call.weights count-weights.0
          (seen n mesh (labels n mesh) acc (units acc)))

      -- Any count in its answer is the number of raises, of different triangles, at most 2n - 5 ..
      pub count_raises : count ≡ length (repair n mesh (labels n mesh) ws).raises
      count_raises =
          to_answer (repair n mesh (labels n mesh) ws).ending (length (repair n mesh (labels n mesh) ws).raises) count
          (rw (ap (answer_at n outer_place ts ws bs scratch) on) at (rw (call-answer n outer_place ts ws bs scratch) at told-it))

      pub count-once : Distinct (repair n mesh (labels n mesh) ws).raises
      count-once = raises_once n mesh (labels n mesh) acc (units acc) ws len

      pub count_few : count ≤ 2 * n - 5
      count_few = omega (arith, count_raises, raises_few n mesh (labels n mesh) acc (units acc) ws len)

      -- .. and the number of weights that differ from those it was lent.
      pub count_changed : count ≡ length (changed mesh ws call.weights)
      count_changed =
          rw (call-weights n outer_place ts ws bs scratch, on) (count_raises ∙ sym (raises_changed n mesh (labels n mesh) acc (units acc) ws len))

    -- where it is not refused repair came to its end
    came_to-end : (count : ℕ) → call.answer ≡ done count → (repair n mesh (labels n mesh) ws).ending ≡ finished
    came_to-end count h =
        let m = repair n mesh (labels n mesh) ws in
        finished_well m.ending (length m.raises) count
        (ap (answer_at n outer_place ts ws bs scratch) (sym (on count (inl h))) ∙ sym (call-answer n outer_place ts ws bs scratch) ∙ h)

    -- There the coordinates that it leaves have no flat and no turned inner triangle, ..
    pub done_upright : (count : ℕ) → call.answer ≡ done count → (t : ℕ) → t ∈ inner mesh →
        bad mesh (labels n mesh) call.coordinates t ≡ false
    done_upright count h t i =
        let a = acc count (inl h) in
        rw (call_coordinates n outer_place ts ws bs scratch, on count (inl h))
        (finished_upright n mesh (labels n mesh) a (units a) ws (len count (inl h)) (came_to-end count h) t i)

    -- .. and the total of the weights that it leaves is 1 or more.
    pub done-total : (count : ℕ) → call.answer ≡ done count → pos 1 ≤ℤ total call.weights
    done-total count h =
        let a = acc count (inl h) in
        rw (call-weights n outer_place ts ws bs scratch, on count (inl h))
        (finished-total n mesh (labels n mesh) a (units a) ws (len count (inl h)) (came_to-end count h))

    -- Where it answers 13, the raise that comes next at the weights that it leaves would break 9.
    pub refused_rightly : (count : ℕ) → call.answer ≡ refused (stopped_after count) →
        (t : ℕ) × (x : ℤ) × NextRaise n mesh (labels n mesh) call.weights count t x × (row9 (add_to call.weights t x) ≡ true)
    refused_rightly count h =
        let e = on count (inr h) in
        let m = repair n mesh (labels n mesh) ws in
        let q : repair_answer m.ending (length m.raises) ≡ refused (stopped_after count) =
        ap (answer_at n outer_place ts ws bs scratch) (sym e) ∙ sym (call-answer n outer_place ts ws bs scratch) ∙ h in
        let r = stopped_rightly n mesh (labels n mesh) (acc count (inr h)) (units (acc count (inr h))) ws (len count (inr h))
        (stopped_early m.ending (length m.raises) count q) in
        rw (call-weights n outer_place ts ws bs scratch, e, count_raises count (inr h)) (r.0, r.1, r.2, over (add_to m.weights r.0 r.1) r.3)

    -- It never answers the number that stands for fuel that ran out.
    pub never_out_of_fuel : call.answer ≢ refused (numbered 0)
    never_out_of_fuel h = go (found n outer_place ts ws bs scratch) refl (sym (call-answer n outer_place ts ws bs scratch) ∙ h)
      where
        go : (o : Option Refusal) → found n outer_place ts ws bs scratch ≡ o → answer_at n outer_place ts ws bs scratch o ≡ refused (numbered 0) → ⊥
        go none e q =
            let r = found_accepted n outer_place ts ws bs scratch e in
            terminates n mesh (labels n mesh) r.0 (units r.0) ws r.1
            (to_answer_zero (repair n mesh (labels n mesh) ws).ending (length (repair n mesh (labels n mesh) ws).raises) q)
        go (some why) e q = let z : why ≡ numbered 0 = cc in omega (arith, found_only n outer_place ts ws bs scratch (numbered 0) (e ∙ ap some z))
