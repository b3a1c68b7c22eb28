-- What the labels call answers and leaves, for each way that it can end: the equations of `labels_call`. Assumes nothing.
use Rattle.std.specs.Prelude.{ℕ, ◌≡◌, length, ℤ, pos}
use Rattle.std.proofs.Common.{sym, ◌∙◌}
use Rattle.std.proofs.Math.Path.{ap}
use mathlib.Core.List.{List, [], ◌∷◌, map}
use Rattle.std.proofs.Math.Option.{Option, none, some}
use Rattle.definitions.specs.Mesh.{triangles_length, scratch_length, labels_length, fronted}
use Rattle.definitions.specs.Answers.{Answer, done, refused, numbered, Refusal, first_refusal, answer_of}
use Rattle.definitions.specs.Labels.{labels}
use Rattle.definitions.specs.Refusals.{Slice, slice, scratch_after, call_refusal, Labelled, labels_call}
use Rattle.theory_sphere.specs.FirstRefusal.{only_none, rim_rows, row2-cons, lent, call_refusal-mesh, call_refusal-own}
use Rattle.lent_slices.specs.Lengths.{first_rows}
use Rattle.lent_slices.specs.Calls.{Fits, early_found, Late, zeros, cleared}

-- the slices that the call has besides the triangles and the scratch
abbrev own : ℕ → List ℕ → List Slice
own n ls = slice (length ls) (labels_length n) ∷ []

-- rows 1 and 2 find nothing
abbrev pub LabelsFit : ℕ → List ℕ → List ℕ → List ℤ → Type 0
LabelsFit n ts ls scratch = Fits n ts scratch (own n ls)

pub labels_long : (n : ℕ) (ts ls : List ℕ) (scratch : List ℤ) → LabelsFit n ts ls scratch → length ls ≡ labels_length n
labels_long n ts ls scratch F =
    let a = (row2-cons (length ts) (triangles_length n) (slice (length scratch) (scratch_length n) ∷ own n ls)).0 F.lengths in
    let b = (row2-cons (length scratch) (scratch_length n) (own n ls)).0 a.1 in
    ((row2-cons (length ls) (labels_length n) []).0 b.1).0

module _ (n outer_place : ℕ) (ts ls : List ℕ) (scratch : List ℤ) where
  abbrev call : Labelled
  call = labels_call n outer_place ts ls scratch

  -- the labels that go with what is found
  abbrev kept : Option Refusal → List ℕ
  kept found = elim found [ none ↦ labels n (fronted outer_place ts) | some why ↦ ls ]

  -- the answer and the labels are the definition's; and the scratch too
  abbrev pub Runs : Answer (Unit {0}) → List ℕ → Type 0
  Runs a l = (a ≡ call.answer) × (l ≡ call.labels)

  abbrev pub Gives : Answer (Unit {0}) → List ℕ → List ℤ → Type 0
  Gives a l s = (a ≡ call.answer) × ((l ≡ call.labels) × (s ≡ call.scratch))

  runs : (found : Option Refusal) → call_refusal n outer_place ts scratch (own n ls) [] ≡ found → Runs (answer_of tt found) (kept found)
  unfolding labels_call
  runs found e = (ap (answer_of tt) (sym e), ap kept (sym e))

  given : (found : Option Refusal) → call_refusal n outer_place ts scratch (own n ls) [] ≡ found →
      Gives (answer_of tt found) (kept found) (scratch_after found scratch)
  unfolding labels_call
  given found e = (ap (answer_of tt) (sym e), (ap kept (sym e), ap (λ (f : Option Refusal). scratch_after f scratch) (sym e)))

  -- 1 and 2
  pub gives_early : (r : ℕ) → r ≡ first_rows n (lent n ts scratch (own n ls)) → (r ≡ 0 → ⊥) → Gives (refused (numbered r)) ls scratch
  gives_early r e f =
      let g = early_found n ts scratch (own n ls) r e outer_place [] f in
      let h = given (some (numbered r)) g.0 in
      (h.0, (h.1.0, sym g.1 ∙ h.1.1))

  module _ (F : LabelsFit n ts ls scratch) where
    -- 21, 3 to 8, or nothing
    pub runs-refused : (why told : Refusal) → first_refusal (rim_rows n outer_place ts) ≡ some why → told ≡ why → Runs (refused told) ls
    runs-refused why told e f = rw f (runs (some why) (call_refusal-mesh n outer_place ts scratch (own n ls) [] why F.size F.lengths e))

    pub runs_written : first_refusal (rim_rows n outer_place ts) ≡ none → (out : List ℕ) → out ≡ labels n (fronted outer_place ts) → Runs (done tt) out
    unfolding first_refusal
    runs_written None-found out e = rw e (runs none (call_refusal-own n outer_place ts scratch (own n ls) [] F.size F.lengths None-found))

    -- the whole call
    pub gives_run : (a : Answer (Unit {0})) (l : List ℕ) → Runs a l → (s z : List ℤ) → length s ≡ length scratch → z ≡ map (λ _. pos 0) s →
        Gives a l z
    unfolding labels_call
    gives_run a l R s z e f = (R.0, (R.1, f ∙ cleared scratch s e ∙ zeros n outer_place ts scratch (own n ls) [] (only_none Late) F))
