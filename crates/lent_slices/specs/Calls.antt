-- What rows 1 and 2 leave to every call on a mesh: they answer and scratch stays, or other rows are asked, whose numbers are 3 or more, and scratch holds
-- zeros. Assumes nothing.
use Rattle.std.specs.Prelude.{ℕ, ◌≤◌, ◌≡◌, refl, false, List, [], ◌∷◌, ◌++◌, map, leb, length, ℤ, pos}
use Rattle.std.proofs.Math.Path.{sym}
use Rattle.std.proofs.Common.{ap, ◌∙◌, arith}
use Rattle.std.proofs.Math.Logic.{inl, inr}
use Rattle.std.proofs.Math.Option.{some}
use Rattle.std.proofs.lemmas.Bool.{lt-leb}
use Rattle.definitions.specs.Answers.{Refusal, numbered, number, Row, row, first_refusal}
use Rattle.definitions.specs.Mesh.{fronted}
use Rattle.definitions.specs.Refusals.{row1, row2, row21, Slice, most_vertices, mesh_rows, scratch_after, lent_refusal, call_refusal}
use Rattle.laws.specs.Lists.{tested}
use Rattle.theory_sphere.specs.FirstRefusal.{asked, OnlyWith, only_row, only_more, only_mesh, rim_rows, only_rim, lent}
use Rattle.theory_sphere.specs.FirstRefusal.{lent_refusal-1, lent_refusal-2, lent_refusal-rest}
use Rattle.lent_slices.specs.Lengths.{first_rows, first-0, first-1, first-2, none_found}

-- Rows 1 and 2 find nothing. `slices` are those that a call has besides the triangles and the scratch.
pub record Fits (n : ℕ) (ts : List ℕ) (scratch : List ℤ) (slices : List Slice) : Type 0 where
  pub size : row1 most_vertices n ≡ false
  pub lengths : row2 (lent n ts scratch slices) ≡ false

module _ (n : ℕ) (ts : List ℕ) (scratch : List ℤ) (slices : List Slice) (r : ℕ) (e : r ≡ first_rows n (lent n ts scratch slices)) where
  pub has_fits : r ≡ 0 → Fits n ts scratch slices
  has_fits z = let b = none_found n (lent n ts scratch slices) r e z in record { size = b.0; lengths = b.1 }

  -- where one of them finds something, its number is answered and scratch stays, whatever else would be asked
  pub early_more : (outer_place : ℕ) (more : List Row) → (r ≡ 0 → ⊥) →
      (lent_refusal n outer_place ts scratch slices more ≡ some (numbered r)) × (scratch_after (some (numbered r)) scratch ≡ scratch)
  unfolding scratch_after
  early_more outer_place more f =
      elim (tested (row1 most_vertices n)) [
        | inl g ↦ let k : r ≡ 1 = e ∙ sym (first-1 n (lent n ts scratch slices) g) in rw k (lent_refusal-1 n outer_place ts scratch slices more g, refl)
        | inr g ↦ elim (tested (row2 (lent n ts scratch slices))) [
          | inl h ↦ let k : r ≡ 2 = e ∙ sym (first-2 n (lent n ts scratch slices) g h) in rw k (lent_refusal-2 n outer_place ts scratch slices more g h, refl)
          | inr h ↦ absurd (f (e ∙ sym (first-0 n (lent n ts scratch slices) g h)))
        ]
      ]

  pub early_found : (outer_place : ℕ) (own : List Row) → (r ≡ 0 → ⊥) →
      (call_refusal n outer_place ts scratch slices own ≡ some (numbered r)) × (scratch_after (some (numbered r)) scratch ≡ scratch)
  unfolding call_refusal
  early_found outer_place own = early_more outer_place (mesh_rows n (fronted outer_place ts) ++ own)

-- a refusal with a number from 3 on leaves zeros
abbrev pub Late : Refusal → Type 0
Late why = 3 ≤ number why

pub rim_late : (n outer_place : ℕ) (ts : List ℕ) → OnlyWith Late (rim_rows n outer_place ts)
rim_late n outer_place ts = only_rim Late (λ k h. h) (λ v. omega arith) (λ v. omega arith) n outer_place ts

pub mesh_late : (n : ℕ) (ts : List ℕ) → OnlyWith Late (mesh_rows n ts)
mesh_late n ts = only_mesh Late (λ k h. h) (λ v. omega arith) (λ v. omega arith) n ts

pub late_zeros : (why : Refusal) (scratch : List ℤ) → Late why → scratch_after (some why) scratch ≡ map (λ _. pos 0) scratch
unfolding scratch_after
late_zeros why scratch h = let z : leb (number why) 2 ≡ false = lt-leb (number why) 2 h in rw z

-- Where rows 1 and 2 find nothing, a call whose other rows have such numbers leaves zeros.
module _ (n outer_place : ℕ) (ts : List ℕ) (scratch : List ℤ) (slices : List Slice) where
  pub zeros-more : (more : List Row) → OnlyWith Late more → Fits n ts scratch slices →
      map (λ _. pos 0) scratch ≡ scratch_after (lent_refusal n outer_place ts scratch slices more) scratch
  unfolding scratch_after
  zeros-more more L F =
      let rest = lent_refusal-rest n outer_place ts scratch slices more F.size F.lengths in
      let late = only_row Late 21 (λ _. row21 n outer_place) more (omega arith) L in
      elim (asked (first_refusal (row 21 (λ _. row21 n outer_place) ∷ more))) [
        | inl q ↦ rw (rest ∙ q)
        | inr q ↦ rw (rest ∙ q.1) (sym (late_zeros q.0 scratch (late q.0 q.1)))
      ]

  pub zeros : (own : List Row) → OnlyWith Late own → Fits n ts scratch slices →
      map (λ _. pos 0) scratch ≡ scratch_after (call_refusal n outer_place ts scratch slices own) scratch
  unfolding call_refusal
  zeros own L =
      let mesh = mesh_rows n (fronted outer_place ts) in
      zeros-more (mesh ++ own) (only_more Late mesh own (mesh_late n (fronted outer_place ts)) L)

-- zeros of one length are zeros of another that is as long
pub cleared : (s s' : List ℤ) → length s' ≡ length s → map (λ _. pos 0) s' ≡ map (λ _. pos 0) s
cleared [] [] e = refl
cleared [] (x ∷ s') e = absurd (omega arith)
cleared (y ∷ s) [] e = absurd (omega arith)
cleared (y ∷ s) (x ∷ s') e = let q : length s' ≡ length s = omega arith in ap (λ (zs : List ℤ). pos 0 ∷ zs) (cleared s s' q)
