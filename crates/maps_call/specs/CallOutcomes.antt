-- What the maps answer and leave, for each way that they can end: the equations of `forward_call` and `backward_call`. Assumes nothing.
use Rattle.std.specs.Prelude.{ℕ, ◌≡◌, true, false, List, [], ◌∷◌, map, length, ℤ, pos}
use Rattle.std.proofs.Math.Path.{refl, ap}
use Rattle.std.proofs.Common.{sym, ◌∙◌, arith}
use Rattle.std.proofs.Math.Option.{Option, none, some}
use Rattle.definitions.specs.Mesh.{weights_length, coordinates_length, fronted}
use Rattle.definitions.specs.Answers.{Answer, done, refused, numbered, Refusal, Row, row, first_refusal, answer_of}
use Rattle.definitions.specs.Labels.{labels}
use Rattle.definitions.specs.Forward.{forward}
use Rattle.definitions.specs.Backward.{backward}
use Rattle.definitions.specs.Refusals.{row9, row10, row11, row12, Slice, slice, scratch_after, call_refusal, forward_call, backward_call}
use Rattle.theory_sphere.specs.FirstRefusal.{OnlyWith, only_none, rim_rows, only_row, call_refusal-mesh, call_refusal-own}
use Rattle.lent_slices.specs.Lengths.{first_rows}
use Rattle.lent_slices.specs.Calls.{Fits, early_found, Late, zeros, cleared}
use Rattle.lent_slices.specs.MapLengths.{Lengths, forward_slices, back-rows, forward_fits, backward_fits}
use Rattle.mesh_check.specs.Stages.{Lent}

-- what the mesh check and the labels stage ask for
pub has_lent : (n : ℕ) (ts : List ℕ) (s w b : ℕ) → Lengths n (length ts) s w b → Lent n ts s
has_lent n ts s w b L = record { least = L.least; most = L.most; triangles = L.triangles; room = omega (arith, L.scratch) }

-- ---- forward

module _ (n outer_place : ℕ) (ts : List ℕ) (ws bs scratch : List ℤ) where
  -- the mesh as it is read
  abbrev mesh_f : List ℕ
  mesh_f = fronted outer_place ts

  abbrev pub Forwards : Answer (Unit {0}) → List ℤ → Type 0
  Forwards a out = (a ≡ (forward_call n outer_place ts ws bs scratch).answer) × (out ≡ (forward_call n outer_place ts ws bs scratch).coordinates)

  abbrev slices_f : List Slice
  slices_f = slice (length ws) (weights_length n) ∷ slice (length bs) (coordinates_length n) ∷ []

  abbrev own_f : List Row
  own_f = row 9 (λ _. row9 ws) ∷ []

  abbrev asked_f : Option Refusal
  asked_f = call_refusal n outer_place ts scratch slices_f own_f

  -- what is written then
  abbrev kept_f : Option Refusal → List ℤ
  kept_f found = elim found [ none ↦ forward n mesh_f (labels n mesh_f) ws | some why ↦ bs ]

  given_f : (found : Option Refusal) → asked_f ≡ found → Forwards (answer_of tt found) (kept_f found)
  unfolding forward_call
  given_f found e = (ap (answer_of tt) (sym e), ap kept_f (sym e))

  scratch_f : (forward_call n outer_place ts ws bs scratch).scratch ≡ scratch_after asked_f scratch
  unfolding forward_call
  scratch_f = refl

  -- 1 and 2
  pub forward_early : (r : ℕ) → r ≡ first_rows n (forward_slices n (length ts) (length scratch) (length ws) (length bs)) → (r ≡ 0 → ⊥)
      → (refused (numbered r) ≡ (forward_call n outer_place ts ws bs scratch).answer)
      × ((bs ≡ (forward_call n outer_place ts ws bs scratch).coordinates) × (scratch ≡ (forward_call n outer_place ts ws bs scratch).scratch))
  forward_early r e f =
      let g = early_found n ts scratch slices_f r e outer_place own_f f in
      let q = given_f (some (numbered r)) g.0 in
      (q.0, (q.1, sym g.1 ∙ ap (λ (o : Option Refusal). scratch_after o scratch) (sym g.0) ∙ sym scratch_f))

  module _ (L : Lengths n (length ts) (length scratch) (length ws) (length bs)) where
    fit_f : Fits n ts scratch slices_f
    fit_f = forward_fits n ts scratch (length ws) (length bs) L

    -- 21, and 3 to 8
    pub forward-mesh : (why told : Refusal) → first_refusal (rim_rows n outer_place ts) ≡ some why → told ≡ why → Forwards (refused told) bs
    forward-mesh why told e f = rw f (given_f (some why) (call_refusal-mesh n outer_place ts scratch slices_f own_f why fit_f.size fit_f.lengths e))

    -- 9
    pub forward-9 : first_refusal (rim_rows n outer_place ts) ≡ none → row9 ws ≡ true → Forwards (refused (numbered 9)) bs
    unfolding first_refusal
    forward-9 e f = given_f (some (numbered 9)) (call_refusal-own n outer_place ts scratch slices_f own_f fit_f.size fit_f.lengths e ∙ rw f)

    -- nothing is found
    pub forward-done : first_refusal (rim_rows n outer_place ts) ≡ none → row9 ws ≡ false → (out : List ℤ) → out ≡ forward n mesh_f (labels n mesh_f) ws →
        Forwards (done tt) out
    unfolding first_refusal
    forward-done e f out g =
        let q = given_f none (call_refusal-own n outer_place ts scratch slices_f own_f fit_f.size fit_f.lengths e ∙ rw f) in
        (q.0, g ∙ q.1)

    pub forward_scratch : (s z : List ℤ) → length s ≡ length scratch → z ≡ map (λ _. pos 0) s → z ≡ (forward_call n outer_place ts ws bs scratch).scratch
    forward_scratch s z e f =
        let own = only_row Late 9 (λ _. row9 ws) [] (omega arith) (only_none Late) in
        f ∙ cleared scratch s e ∙ zeros n outer_place ts scratch slices_f own_f own fit_f ∙ sym scratch_f

-- ---- backward

module _ (n outer_place : ℕ) (ts : List ℕ) (bs ws scratch : List ℤ) where
  -- the mesh as it is read
  abbrev mesh_b : List ℕ
  mesh_b = fronted outer_place ts

  abbrev pub Backwards : Answer (Unit {0}) → List ℤ → Type 0
  Backwards a out = (a ≡ (backward_call n outer_place ts bs ws scratch).answer) × (out ≡ (backward_call n outer_place ts bs ws scratch).weights)

  abbrev slices_b : List Slice
  slices_b = slice (length bs) (coordinates_length n) ∷ slice (length ws) (weights_length n) ∷ []

  abbrev own_b : List Row
  own_b =
      row 10 (λ _. row10 bs) ∷ row 11 (λ _. row11 mesh_b bs) ∷ row 12 (λ _. row12 n mesh_b bs) ∷ row 9 (λ _. row9 (backward mesh_b (labels n mesh_b) bs)) ∷ []

  abbrev asked_b : Option Refusal
  asked_b = call_refusal n outer_place ts scratch slices_b own_b

  -- what is written then
  abbrev kept_b : Option Refusal → List ℤ
  kept_b found = elim found [ none ↦ backward mesh_b (labels n mesh_b) bs | some why ↦ ws ]

  given_b : (found : Option Refusal) → asked_b ≡ found → Backwards (answer_of tt found) (kept_b found)
  unfolding backward_call
  given_b found e = (ap (answer_of tt) (sym e), ap kept_b (sym e))

  scratch_b : (backward_call n outer_place ts bs ws scratch).scratch ≡ scratch_after asked_b scratch
  unfolding backward_call
  scratch_b = refl

  -- 1 and 2
  pub backward_early : (r : ℕ) → r ≡ first_rows n (forward_slices n (length ts) (length scratch) (length ws) (length bs)) → (r ≡ 0 → ⊥)
      → (refused (numbered r) ≡ (backward_call n outer_place ts bs ws scratch).answer)
      × ((ws ≡ (backward_call n outer_place ts bs ws scratch).weights) × (scratch ≡ (backward_call n outer_place ts bs ws scratch).scratch))
  backward_early r d f =
      let e = d ∙ back-rows n (length ts) (length scratch) (length ws) (length bs) in
      let g = early_found n ts scratch slices_b r e outer_place own_b f in
      let q = given_b (some (numbered r)) g.0 in
      (q.0, (q.1, sym g.1 ∙ ap (λ (o : Option Refusal). scratch_after o scratch) (sym g.0) ∙ sym scratch_b))

  module _ (L : Lengths n (length ts) (length scratch) (length ws) (length bs)) where
    fit_b : Fits n ts scratch slices_b
    fit_b = backward_fits n ts scratch (length ws) (length bs) L

    -- 21, and 3 to 8
    pub backward-mesh : (why told : Refusal) → first_refusal (rim_rows n outer_place ts) ≡ some why → told ≡ why → Backwards (refused told) ws
    backward-mesh why told e f = rw f (given_b (some why) (call_refusal-mesh n outer_place ts scratch slices_b own_b why fit_b.size fit_b.lengths e))

    module _ (e : first_refusal (rim_rows n outer_place ts) ≡ none) where
      mine : (o : Option Refusal) → first_refusal own_b ≡ o → asked_b ≡ o
      mine o f = call_refusal-own n outer_place ts scratch slices_b own_b fit_b.size fit_b.lengths e ∙ f

      -- 10, 11, 12 and 9
      pub backward-10 : row10 bs ≡ true → Backwards (refused (numbered 10)) ws
      unfolding first_refusal
      backward-10 f = given_b (some (numbered 10)) (mine (some (numbered 10)) (rw f))

      pub backward-11 : row10 bs ≡ false → row11 mesh_b bs ≡ true → Backwards (refused (numbered 11)) ws
      unfolding first_refusal
      backward-11 f g = given_b (some (numbered 11)) (mine (some (numbered 11)) (rw (f, g)))

      pub backward-12 : row10 bs ≡ false → row11 mesh_b bs ≡ false → row12 n mesh_b bs ≡ true → Backwards (refused (numbered 12)) ws
      unfolding first_refusal
      backward-12 f g h = given_b (some (numbered 12)) (mine (some (numbered 12)) (rw (f, g, h)))

      pub backward-9 : row10 bs ≡ false → row11 mesh_b bs ≡ false → row12 n mesh_b bs ≡ false → row9 (backward mesh_b (labels n mesh_b) bs) ≡ true
          → Backwards (refused (numbered 9)) ws
      unfolding first_refusal
      backward-9 f g h i = given_b (some (numbered 9)) (mine (some (numbered 9)) (rw (f, g, h, i)))

      -- nothing is found
      pub backward-done : row10 bs ≡ false → row11 mesh_b bs ≡ false → row12 n mesh_b bs ≡ false → row9 (backward mesh_b (labels n mesh_b) bs) ≡ false
          → (out : List ℤ) → out ≡ backward mesh_b (labels n mesh_b) bs → Backwards (done tt) out
      unfolding first_refusal
      backward-done f g h i out j =
          let q = given_b none (mine none (rw (f, g, h, i))) in
          (q.0, j ∙ q.1)

    late : OnlyWith Late own_b
    late =
        only_row Late 10 (λ _. row10 bs) _ (omega arith)
        (only_row Late 11 (λ _. row11 mesh_b bs) _ (omega arith)
        (only_row Late 12 (λ _. row12 n mesh_b bs) _ (omega arith)
        (only_row Late 9 (λ _. row9 (backward mesh_b (labels n mesh_b) bs)) [] (omega arith) (only_none Late))))

    pub backward_scratch : (s z : List ℤ) → length s ≡ length scratch → z ≡ map (λ _. pos 0) s → z ≡ (backward_call n outer_place ts bs ws scratch).scratch
    backward_scratch s z e f =
        f ∙ cleared scratch s e ∙ zeros n outer_place ts scratch slices_b own_b late fit_b ∙ sym scratch_b
