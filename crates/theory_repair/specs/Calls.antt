-- The public call of repair, in its parts: what a call that goes on was lent, what it answers, and what it leaves. Assumes nothing.
use Rattle.std.specs.Prelude.{ℕ, ◌≤◌, ◌≡◌, ◌⊎◌, List, [], ◌∷◌, length, ℤ}
use Rattle.std.proofs.Math.Path.{refl}
use Rattle.std.proofs.Common.{inl, inr, arith}
use Rattle.std.proofs.Math.Option.{Option, none, some}
use Rattle.definitions.specs.Mesh.{weights_length, coordinates_length, fronted}
use Rattle.definitions.specs.Labels.{labels}
use Rattle.definitions.specs.Forward.{forward}
use Rattle.definitions.specs.Repair.{Ending, finished, stopped, out_of_fuel, repair}
use Rattle.definitions.specs.Answers.{Answer, done, refused, Refusal, numbered, vertex_pinched, vertex_stray, stopped_after, share_outside, line_broken, row}
use Rattle.definitions.specs.Refusals.{Accepted, slice, row9, call_refusal, repair_answer, repair_call}
use Rattle.theory_sphere.specs.FirstRefusal.{only_none, only_row, row2-cons, call_refusal_only, call_refusal-none}

-- the answer tells how many raises there were
pub to_answer : (e : Ending) (k count : ℕ) → (repair_answer e k ≡ done count) ⊎ (repair_answer e k ≡ refused (stopped_after count)) → count ≡ k
unfolding repair_answer
to_answer finished k count (inl q) = cc
to_answer finished k count (inr q) = cc
to_answer stopped k count (inl q) = cc
to_answer stopped k count (inr q) = cc
to_answer out_of_fuel k count (inl q) = cc
to_answer out_of_fuel k count (inr q) = cc

pub to_answer_zero : (e : Ending) (k : ℕ) → repair_answer e k ≡ refused (numbered 0) → e ≡ out_of_fuel
unfolding repair_answer
to_answer_zero finished k q = cc
to_answer_zero stopped k q = cc
to_answer_zero out_of_fuel k q = refl

pub finished_well : (e : Ending) (k count : ℕ) → repair_answer e k ≡ done count → e ≡ finished
unfolding repair_answer
finished_well finished k count q = refl
finished_well stopped k count q = cc
finished_well out_of_fuel k count q = cc

pub stopped_early : (e : Ending) (k count : ℕ) → repair_answer e k ≡ refused (stopped_after count) → e ≡ stopped
unfolding repair_answer
stopped_early finished k count q = cc
stopped_early stopped k count q = refl
stopped_early out_of_fuel k count q = cc

-- what the rows of the call refuse with
abbrev pub FromRows : Refusal → Type 0
FromRows (numbered k) = 1 ≤ k
FromRows (vertex_pinched v) = Unit {0}
FromRows (vertex_stray v) = Unit {0}
FromRows (stopped_after count) = ⊥
FromRows (share_outside share) = ⊥
FromRows (line_broken line) = ⊥

-- the parts of the call's outcome, by what the rows found
module _ (n outer_place : ℕ) (ts : List ℕ) (ws bs scratch : List ℤ) where
  -- the mesh as it is read
  abbrev mesh : List ℕ
  mesh = fronted outer_place ts

  abbrev pub found : Option Refusal
  found = call_refusal n outer_place ts scratch (slice (length ws) (weights_length n) ∷ slice (length bs) (coordinates_length n) ∷ []) (row 9 (λ _. row9 ws) ∷ [])

  abbrev pub answer_at : Option Refusal → Answer ℕ
  answer_at o =
      elim o [
        | none ↦ repair_answer (repair n mesh (labels n mesh) ws).ending (length (repair n mesh (labels n mesh) ws).raises)
        | some why ↦ refused why
      ]

  abbrev pub weights_at : Option Refusal → List ℤ
  weights_at o = elim o [ none ↦ (repair n mesh (labels n mesh) ws).weights | some why ↦ ws ]

  abbrev pub coordinates_at : Option Refusal → List ℤ
  coordinates_at o = elim o [ none ↦ forward n mesh (labels n mesh) (repair n mesh (labels n mesh) ws).weights | some why ↦ bs ]

  pub call-answer : (repair_call n outer_place ts ws bs scratch).answer ≡ answer_at found
  unfolding repair_call
  call-answer = refl

  pub call-weights : (repair_call n outer_place ts ws bs scratch).weights ≡ weights_at found
  unfolding repair_call
  call-weights = refl

  pub call_coordinates : (repair_call n outer_place ts ws bs scratch).coordinates ≡ coordinates_at found
  unfolding repair_call
  call_coordinates = refl

  -- a call that goes on was lent an accepted mesh, and as many weights as it has inner triangles
  pub found_accepted : found ≡ none → Accepted n mesh × (length ws ≡ weights_length n)
  found_accepted e =
      let own = row 9 (λ _. row9 ws) ∷ [] in
      let slices = slice (length bs) (coordinates_length n) ∷ [] in
      let r = call_refusal-none n outer_place ts scratch (slice (length ws) (weights_length n) ∷ slices) own e in
      (r.1, ((row2-cons (length ws) (weights_length n) slices).0 r.3).0)

  -- The rows refuse with a number that is not 0, or with a vertex, and never with a count.
  pub found_only : (why : Refusal) → found ≡ some why → FromRows why
  found_only =
      let slices = slice (length ws) (weights_length n) ∷ slice (length bs) (coordinates_length n) ∷ [] in
      call_refusal_only n outer_place ts scratch slices (row 9 (λ _. row9 ws) ∷ []) FromRows (λ k h. h) (λ v. tt) (λ v. tt)
      (only_row FromRows 9 (λ _. row9 ws) [] (omega arith) (only_none FromRows))
