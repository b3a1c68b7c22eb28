-- The snapping call, row by row: what it gives where a row refuses, and where none does. Assumes nothing.
use Rattle.std.specs.Prelude.{ℕ, ◌*◌, ◌<◌, Err, ◌≡◌, refl, true, false, not, List, [], ◌∷◌, ℤ, Float, length}
use Rattle.std.proofs.Math.Path.{sym}
use Rattle.std.proofs.Common.{ap, ◌∙◌, arith}
use Rattle.std.proofs.Math.Logic.{inl, inr}
use Rattle.std.proofs.Math.Option.{none}
use Rattle.definitions.specs.Answers.{Refusal, numbered, Answer, done, refused}
use Rattle.definitions.specs.Mesh.{points_length, coordinates_length}
use Rattle.definitions.specs.DrawnPoints.{default_scale, effective_scale, scale_allowed, snap_all}
use Rattle.definitions.specs.Refusals.{row1, row2, most_vertices, Slice, slice, Snapped, snap_call}
use Rattle.laws.specs.Lists.{tested}
use Rattle.theory_sphere.specs.FirstRefusal.{row2-cons}
use Rattle.lent_slices.specs.Lengths.{row_in, first_rows, first-0, first-1, first-2, none_found}
use Rattle.snap_model.specs.Call.{slices, found, outcome, call}
use Rattle.snap_model.specs.Points.{settled, new, not-refused}
use Rattle.snap_model.specs.Looking.{shares_answer, shares_answer_lem}
use Rattle.lent_slices.specs.declared.SizeRefusal.{SizeRefusal}
use Rattle.lent_slices.specs.declared.SizeRefusal.TheVariants.{VertexCount, SliceLength}
use Rattle.snap_call.specs.Answer.{snap_to_refusal, of_size}
use Rattle.snap_call.specs.declared.SnapRefusal.{SnapRefusal}

-- where rows 1 and 2 find nothing the lengths m, p are right
module _ (n m p : ℕ) (e : 0 ≡ first_rows n (slice m (points_length n) ∷ slice p (coordinates_length n) ∷ [])) where
  shares_first : (m ≡ 2 * n) × (row2 (slice p (coordinates_length n) ∷ []) ≡ false)
  shares_first = (row2-cons m (points_length n) (slice p (coordinates_length n) ∷ [])).0 (none_found n _ 0 e refl).1

  pub shares_long : m ≡ 2 * n
  shares_long = shares_first.0

  pub coordinates_long : p ≡ 3 * n
  coordinates_long = ((row2-cons p (coordinates_length n) []).0 shares_first.1).0

-- ---- the call

is_refused : (w : Answer (List ℤ)) (bs : List ℤ) → (settled w ≡ done tt → ⊥) →
    outcome none w bs ≡ record { answer = settled w; coordinates = bs }
unfolding outcome
is_refused (refused why) bs h = refl
is_refused (done cs) bs h = absurd (h refl)

is_done : (w : Answer (List ℤ)) (bs : List ℤ) → settled w ≡ done tt → outcome none w bs ≡ record { answer = done tt; coordinates = new w }
unfolding outcome
is_done (refused why) bs h = absurd (not-refused why h)
is_done (done cs) bs h = refl

module _ (n : ℕ) (shares : List Float) (scale : ℕ) (bs : List ℤ) where
  -- it answers a, and leaves cs in the coordinates
  abbrev pub Gives : Answer (Unit {0}) → List ℤ → Type 0
  Gives a cs = (a ≡ (snap_call n shares scale bs).answer) × (cs ≡ (snap_call n shares scale bs).coordinates)

  gives : (o : Snapped) → snap_call n shares scale bs ≡ o → Gives o.answer o.coordinates
  gives o e = (ap (λ (s : Snapped). s.answer) (sym e), ap (λ (s : Snapped). s.coordinates) (sym e))

  abbrev same : Refusal → Snapped
  same why = record { answer = refused why; coordinates = bs }

  abbrev lent : List Slice
  lent = slices n shares bs

  in_parts : snap_call n shares scale bs
      ≡ outcome (found (row1 most_vertices n) (row2 lent) (not (scale_allowed scale))) (snap_all (effective_scale default_scale scale) shares) bs
  in_parts = unfold snap_call in call default_scale n shares scale bs

  -- rows 1 and 2 find k
  early : (k : ℕ) → k ≡ first_rows n lent → 0 < k → Gives (refused (numbered k)) bs
  early k e f =
      elim (tested (row1 most_vertices n)) [
        | inl g ↦
            let z : k ≡ 1 = e ∙ sym (first-1 n lent g) in
            rw z (gives (same (numbered 1)) (rw (in_parts, g) (unfold found outcome in refl)))
        | inr g ↦ elim (tested (row2 lent)) [
          | inl h ↦
              let z : k ≡ 2 = e ∙ sym (first-2 n lent g h) in
              rw z (gives (same (numbered 2)) (rw (in_parts, g, h) (unfold found outcome in refl)))
          | inr h ↦ absurd (omega (arith, first-0 n lent g h))
        ]
      ]

  pub gives_size : (size : SizeRefusal) → row_in (Err size) ≡ first_rows n lent → Gives (refused (snap_to_refusal (of_size size))) bs
  gives_size VertexCount e = early 1 e (omega arith)
  gives_size SliceLength e = early 2 e (omega arith)

  -- they find nothing
  module _ (e : 0 ≡ first_rows n lent) where
    -- row 14
    pub gives_scale : false ≡ scale_allowed scale → Gives (refused (numbered 14)) bs
    gives_scale g =
        let f = none_found n lent 0 e refl in
        gives (same (numbered 14)) (rw (in_parts, f.0, f.1, ← g) (unfold found outcome in refl))

    -- the points decide
    module _ (g : true ≡ scale_allowed scale) where
      decided : snap_call n shares scale bs ≡ outcome none (snap_all (effective_scale default_scale scale) shares) bs
      decided = let f = none_found n lent 0 e refl in rw (in_parts, f.0, f.1, ← g) (unfold found in refl)

      looked : (r : ℕ) → settled (snap_all r shares) ≡ shares_answer shares
      looked r = shares_answer_lem r n shares (shares_long n (length shares) (length bs) e)

      -- the first that is refused is answered, and the coordinates stay as lent
      pub gives_refusal : (why : SnapRefusal) → refused (snap_to_refusal why) ≡ shares_answer shares → Gives (refused (snap_to_refusal why)) bs
      gives_refusal why l =
          let w = snap_all (effective_scale default_scale scale) shares in
          let h : refused (snap_to_refusal why) ≡ settled w = l ∙ sym (looked _) in
          rw h (gives (record { answer = settled w; coordinates = bs }) (decided ∙ is_refused w bs (λ d. not-refused (snap_to_refusal why) (h ∙ d))))

      -- none is, and the coordinates are theirs
      pub gives_done : done tt ≡ shares_answer shares → (r : ℕ) → r ≡ effective_scale default_scale scale → (cs : List ℤ) → cs ≡ new (snap_all r shares)
          → Gives (done tt) cs
      gives_done l r i cs f =
          let w = snap_all r shares in
          rw f (gives (record { answer = done tt; coordinates = new w }) ((rw (← i) at decided) ∙ is_done w bs (looked r ∙ sym l)))
