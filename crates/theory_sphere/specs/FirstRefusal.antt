-- Rows asked in turn: the refusal that `first_refusal` gives is that of the first row that finds something. Assumes nothing.
use Rattle.std.specs.Prelude.{ℕ, ◌-◌, ◌*◌, ◌≤◌, ◌<◌, ◌≡◌, ◌↔◌, ◌⊎◌, Bool, true, false, not, ℤ, length, eqb}
use Rattle.std.proofs.Math.Path.{refl, subst}
use Rattle.std.proofs.Common.{sym, ap, ◌∙◌, arith, leb-false, eqb-true, eq-eqb}
use Rattle.std.proofs.Math.Logic.{inl, inr}
use mathlib.Core.List.{List, [], ◌∷◌, ◌++◌}
use Rattle.std.proofs.Math.Option.{Option, none, some, some-ne-none, some-injective}
use Rattle.std.proofs.lemmas.Bool.{lt-leb, not-false}
use Rattle.definitions.specs.Lists.{any}
use Rattle.definitions.specs.Answers.{Refusal, numbered, vertex_pinched, vertex_stray, Row, row, first_refusal}
use Rattle.definitions.specs.Mesh.{triangles_length, scratch_length, fronted, row3, row4, row5, row6, row7or25, row8}
use Rattle.definitions.specs.Refusals.{row1, row2, row21, most_vertices, Slice, slice, wrong_length, mesh_rows, lent_refusal, call_refusal, Accepted}
use Rattle.laws.specs.Lists.{tested, untrue, or_neither}
use Rattle.theory_sphere.specs.Fronted.{length-fronted}
use Rattle.theory_sphere.specs.Vertices.{found-lowest}

-- a row finds nothing or something
pub asked : (o : Option Refusal) → (o ≡ none) ⊎ ((why : Refusal) × (o ≡ some why))
asked none = inl refl
asked (some why) = inr (why, refl)

-- a row that is a number and a test
module _ (k : ℕ) (test : Unit {0} → Bool) where
  pub row-found : test tt ≡ true → row k test tt ≡ some (numbered k)
  row-found e = rw e

  pub row_passed : test tt ≡ false → row k test tt ≡ none
  row_passed e = rw e

  pub row-none : row k test tt ≡ none → test tt ≡ false
  row-none e = untrue (test tt) (λ t. some-ne-none (numbered k) (sym (row-found t) ∙ e))

module _ (ahead : Row) (rows : List Row) where
  -- the first row finds something
  pub refusal-found : (why : Refusal) → ahead tt ≡ some why → first_refusal (ahead ∷ rows) ≡ some why
  unfolding first_refusal
  refusal-found why e = rw e

  -- it finds nothing, and the next is asked
  pub refusal_passed : ahead tt ≡ none → first_refusal (ahead ∷ rows) ≡ first_refusal rows
  unfolding first_refusal
  refusal_passed e = rw e

  -- where nothing is found at all, the first row finds nothing and neither do the others
  pub refusal-cons : first_refusal (ahead ∷ rows) ≡ none → (ahead tt ≡ none) × (first_refusal rows ≡ none)
  refusal-cons e =
      elim (asked (ahead tt)) [
        | inl q ↦ (q, sym (refusal_passed q) ∙ e)
        | inr q ↦ absurd (some-ne-none q.0 (sym (refusal-found q.0 q.1) ∙ e))
      ]

-- more rows: asked where the first find nothing, and not where they find something
pub refusal-more : (rows more : List Row) → first_refusal rows ≡ none → first_refusal (rows ++ more) ≡ first_refusal more
refusal-more [] more e = refl
refusal-more (ahead ∷ rows) more e =
    let r = refusal-cons ahead rows e in
    refusal_passed ahead (rows ++ more) r.0 ∙ refusal-more rows more r.1

pub refusal-first : (rows more : List Row) (why : Refusal) → first_refusal rows ≡ some why → first_refusal (rows ++ more) ≡ some why
unfolding first_refusal
refusal-first [] more why e = absurd (some-ne-none why (sym e))
refusal-first (ahead ∷ rows) more why e =
    elim (asked (ahead tt)) [
      | inl q ↦ refusal_passed ahead (rows ++ more) q ∙ refusal-first rows more why (sym (refusal_passed ahead rows q) ∙ e)
      | inr q ↦ refusal-found ahead (rows ++ more) q.0 q.1 ∙ sym (refusal-found ahead rows q.0 q.1) ∙ e
    ]

pub refusal-both : (rows more : List Row) → first_refusal (rows ++ more) ≡ none → (first_refusal rows ≡ none) × (first_refusal more ≡ none)
unfolding first_refusal
refusal-both [] more e = (refl, e)
refusal-both (ahead ∷ rows) more e =
    let r = refusal-cons ahead (rows ++ more) e in
    let s = refusal-both rows more r.1 in
    (refusal_passed ahead rows r.0 ∙ s.0, s.1)

-- rows that find the same, with the same row ahead of them, and with the same rows behind them
pub same_behind : (ahead : Row) (rows others : List Row) → first_refusal rows ≡ first_refusal others →
    first_refusal (ahead ∷ rows) ≡ first_refusal (ahead ∷ others)
unfolding first_refusal
same_behind ahead rows others e = ap (λ (found : Option Refusal). elim (ahead tt) [ some why ↦ some why | none ↦ found ]) e

pub same_more : (rows others more : List Row) → first_refusal rows ≡ first_refusal others → first_refusal (rows ++ more) ≡ first_refusal (others ++ more)
same_more rows others more e =
    elim (asked (first_refusal others)) [
      | inl q ↦ refusal-more rows more (e ∙ q) ∙ sym (refusal-more others more q)
      | inr q ↦ refusal-first rows more q.0 (e ∙ q.1) ∙ sym (refusal-first others more q.0 q.1)
    ]

-- Row 21, and then the rows of the mesh with its outer triangle in front. In a call on a mesh they stand between 1 and 2 and the call's own.
unfoldable pub rim_rows : ℕ → ℕ → List ℕ → List Row
rim_rows n outer_place ts = row 21 (λ _. row21 n outer_place) ∷ mesh_rows n (fronted outer_place ts)

-- ---- rows that refuse only with refusals that have P

module _ (P : Refusal → Type 0) where
  abbrev pub OnlyWith : List Row → Type 0
  OnlyWith rows = (why : Refusal) → first_refusal rows ≡ some why → P why

  pub only_none : OnlyWith []
  unfolding first_refusal
  only_none why e = absurd (some-ne-none why (sym e))

  only_cons : (ahead : Row) (rows : List Row) → ((why : Refusal) → ahead tt ≡ some why → P why) → OnlyWith rows → OnlyWith (ahead ∷ rows)
  only_cons ahead rows h r why e =
      elim (asked (ahead tt)) [
        | inl q ↦ r why (sym (refusal_passed ahead rows q) ∙ e)
        | inr q ↦ h why (q.1 ∙ sym (refusal-found ahead rows q.0 q.1) ∙ e)
      ]

  pub only_row : (k : ℕ) (test : Unit {0} → Bool) (rows : List Row) → P (numbered k) → OnlyWith rows → OnlyWith (row k test ∷ rows)
  only_row k test rows h = only_cons (row k test) rows (λ why e.
      elim (tested (test tt)) [
        | inl t ↦ subst P (some-injective (numbered k) why (sym (row-found k test t) ∙ e)) h
        | inr t ↦ absurd (some-ne-none why (sym e ∙ row_passed k test t))
      ])

  pub only_more : (rows more : List Row) → OnlyWith rows → OnlyWith more → OnlyWith (rows ++ more)
  only_more rows more h g why e =
      elim (asked (first_refusal rows)) [
        | inl q ↦ g why (sym (refusal-more rows more q) ∙ e)
        | inr q ↦ h why (q.1 ∙ sym (refusal-first rows more q.0 q.1) ∙ e)
      ]

  -- the rows of a mesh refuse with numbers from 3 on, or with a vertex
  module _ (numbers : (k : ℕ) → 3 ≤ k → P (numbered k)) (pinched : (v : ℕ) → P (vertex_pinched v)) (stray : (v : ℕ) → P (vertex_stray v)) where
    pub only_mesh : (n : ℕ) (ts : List ℕ) → OnlyWith (mesh_rows n ts)
    unfolding mesh_rows
    only_mesh n ts =
        only_row 3 (λ _. row3 ts n) _ (numbers 3 (omega arith))
        (only_row 4 (λ _. row4 ts) _ (numbers 4 (omega arith))
        (only_row 5 (λ _. row5 ts) _ (numbers 5 (omega arith))
        (only_row 6 (λ _. row6 ts) _ (numbers 6 (omega arith))
        (only_cons (λ _. row7or25 ts n) _ (λ why e.
        let r = found-lowest ts n why e in
        elim r.3 [ inl s ↦ subst P (sym s.0) (stray r.0) | inr s ↦ subst P (sym s.0) (pinched r.0) ])
        (only_row 8 (λ _. row8 ts) [] (numbers 8 (omega arith)) only_none)))))

    pub only_rim : (n outer_place : ℕ) (ts : List ℕ) → OnlyWith (rim_rows n outer_place ts)
    unfolding rim_rows
    only_rim n outer_place ts =
        only_row 21 (λ _. row21 n outer_place) _ (numbers 21 (omega arith)) (only_mesh n (fronted outer_place ts))

-- row 2 finds nothing just where every slice has the length that is wanted
pub row2-cons : (has wanted : ℕ) (slices : List Slice) → (row2 (slice has wanted ∷ slices) ≡ false) ↔ ((has ≡ wanted) × (row2 slices ≡ false))
unfolding row2
row2-cons has wanted slices = (
  λ e.
      let r = or_neither (not (eqb has wanted)) (any wrong_length slices) e in
      (eqb-true has wanted (not-false (eqb has wanted) r.0), r.1),
  λ r. rw (eq-eqb has wanted r.0) r.1,
)

-- the rows of a mesh find nothing just where each of them finds nothing
module _ (n : ℕ) (ts : List ℕ) where
  pub record Clean : Type 0 where
    pub clean3 : row3 ts n ≡ false
    pub clean4 : row4 ts ≡ false
    pub clean5 : row5 ts ≡ false
    pub clean6 : row6 ts ≡ false
    pub clean7 : row7or25 ts n ≡ none
    pub clean8 : row8 ts ≡ false

  pub refusal_clean : first_refusal (mesh_rows n ts) ≡ none → Clean
  unfolding mesh_rows
  refusal_clean e =
      let r3 = refusal-cons (row 3 (λ _. row3 ts n)) _ e in
      let r4 = refusal-cons (row 4 (λ _. row4 ts)) _ r3.1 in
      let r5 = refusal-cons (row 5 (λ _. row5 ts)) _ r4.1 in
      let r6 = refusal-cons (row 6 (λ _. row6 ts)) _ r5.1 in
      let r7 = refusal-cons (λ _. row7or25 ts n) _ r6.1 in
      let r8 = refusal-cons (row 8 (λ _. row8 ts)) _ r7.1 in
      record {
        clean3 = row-none 3 (λ _. row3 ts n) r3.0;
        clean4 = row-none 4 (λ _. row4 ts) r4.0;
        clean5 = row-none 5 (λ _. row5 ts) r5.0;
        clean6 = row-none 6 (λ _. row6 ts) r6.0;
        clean7 = r7.0;
        clean8 = row-none 8 (λ _. row8 ts) r8.0;
      }

  pub clean_refusal : Clean → first_refusal (mesh_rows n ts) ≡ none
  unfolding mesh_rows first_refusal
  clean_refusal c = rw (c.clean3, c.clean4, c.clean5, c.clean6, c.clean7, c.clean8)

  -- each row's refusal is given where it finds something and those before it found nothing
  pub mesh-3 : row3 ts n ≡ true → first_refusal (mesh_rows n ts) ≡ some (numbered 3)
  unfolding mesh_rows first_refusal
  mesh-3 e = rw e

  pub mesh-4 : row3 ts n ≡ false → row4 ts ≡ true → first_refusal (mesh_rows n ts) ≡ some (numbered 4)
  unfolding mesh_rows first_refusal
  mesh-4 r3 e = rw (r3, e)

  pub mesh-5 : row3 ts n ≡ false → row4 ts ≡ false → row5 ts ≡ true → first_refusal (mesh_rows n ts) ≡ some (numbered 5)
  unfolding mesh_rows first_refusal
  mesh-5 r3 r4 e = rw (r3, r4, e)

  pub mesh-6 : row3 ts n ≡ false → row4 ts ≡ false → row5 ts ≡ false → row6 ts ≡ true → first_refusal (mesh_rows n ts) ≡ some (numbered 6)
  unfolding mesh_rows first_refusal
  mesh-6 r3 r4 r5 e = rw (r3, r4, r5, e)

  pub mesh_7or25 : (why : Refusal) → row3 ts n ≡ false → row4 ts ≡ false → row5 ts ≡ false → row6 ts ≡ false → row7or25 ts n ≡ some why →
      first_refusal (mesh_rows n ts) ≡ some why
  unfolding mesh_rows first_refusal
  mesh_7or25 why r3 r4 r5 r6 e = rw (r3, r4, r5, r6, e)

  pub mesh-8 : row3 ts n ≡ false → row4 ts ≡ false → row5 ts ≡ false → row6 ts ≡ false → row7or25 ts n ≡ none → row8 ts ≡ true →
      first_refusal (mesh_rows n ts) ≡ some (numbered 8)
  unfolding mesh_rows first_refusal
  mesh-8 r3 r4 r5 r6 r7 e = rw (r3, r4, r5, r6, r7, e)

-- of these rows 21 is asked first
module _ (n outer_place : ℕ) (ts : List ℕ) where
  pub rim-21 : row21 n outer_place ≡ true → first_refusal (rim_rows n outer_place ts) ≡ some (numbered 21)
  unfolding rim_rows
  rim-21 e =
      refusal-found (row 21 (λ _. row21 n outer_place)) (mesh_rows n (fronted outer_place ts)) (numbered 21) (row-found 21 (λ _. row21 n outer_place) e)

  pub rim-mesh : row21 n outer_place ≡ false → first_refusal (rim_rows n outer_place ts) ≡ first_refusal (mesh_rows n (fronted outer_place ts))
  unfolding rim_rows
  rim-mesh e = refusal_passed (row 21 (λ _. row21 n outer_place)) (mesh_rows n (fronted outer_place ts)) (row_passed 21 (λ _. row21 n outer_place) e)

  pub rim-none : first_refusal (rim_rows n outer_place ts) ≡ none → (row21 n outer_place ≡ false)
      × (first_refusal (mesh_rows n (fronted outer_place ts)) ≡ none)
  unfolding rim_rows
  rim-none e =
      let r = refusal-cons (row 21 (λ _. row21 n outer_place)) (mesh_rows n (fronted outer_place ts)) e in
      (row-none 21 (λ _. row21 n outer_place) r.0, r.1)

-- row 21 finds nothing just where there is such a triangle
pub row21_means : (n outer_place : ℕ) → (row21 n outer_place ≡ false) ↔ (outer_place < 2 * n - 4)
unfolding row21
row21_means n outer_place = (leb-false (2 * n - 4) outer_place, lt-leb (2 * n - 4) outer_place)

-- What every call on a mesh asks first: 1, 2 and 21. `more` are the rows after them.
abbrev pub lent : ℕ → List ℕ → List ℤ → List Slice → List Slice
lent n ts scratch slices = slice (length ts) (triangles_length n) ∷ slice (length scratch) (scratch_length n) ∷ slices

module _ (n outer_place : ℕ) (ts : List ℕ) (scratch : List ℤ) (slices : List Slice) (more : List Row) where
  abbrev one : Row
  one = row 1 (λ _. row1 most_vertices n)

  abbrev two : Row
  two = row 2 (λ _. row2 (lent n ts scratch slices))

  abbrev rest : List Row
  rest = row 21 (λ _. row21 n outer_place) ∷ more

  all-rows : lent_refusal n outer_place ts scratch slices more ≡ first_refusal (one ∷ two ∷ rest)
  unfolding lent_refusal
  all-rows = refl

  past_1 : row1 most_vertices n ≡ false → lent_refusal n outer_place ts scratch slices more ≡ first_refusal (two ∷ rest)
  past_1 e = all-rows ∙ refusal_passed one (two ∷ rest) (row_passed 1 (λ _. row1 most_vertices n) e)

  pub lent_refusal-rest : row1 most_vertices n ≡ false → row2 (lent n ts scratch slices) ≡ false →
      lent_refusal n outer_place ts scratch slices more ≡ first_refusal (row 21 (λ _. row21 n outer_place) ∷ more)
  lent_refusal-rest e f = past_1 e ∙ refusal_passed two rest (row_passed 2 (λ _. row2 (lent n ts scratch slices)) f)

  -- the refusal of the first row that finds something, row by row
  pub lent_refusal-1 : row1 most_vertices n ≡ true → lent_refusal n outer_place ts scratch slices more ≡ some (numbered 1)
  lent_refusal-1 e = all-rows ∙ refusal-found one (two ∷ rest) (numbered 1) (row-found 1 (λ _. row1 most_vertices n) e)

  pub lent_refusal-2 : row1 most_vertices n ≡ false → row2 (lent n ts scratch slices) ≡ true →
      lent_refusal n outer_place ts scratch slices more ≡ some (numbered 2)
  lent_refusal-2 e f = past_1 e ∙ refusal-found two rest (numbered 2) (row-found 2 (λ _. row2 (lent n ts scratch slices)) f)

  -- they refuse with their numbers
  pub lent_refusal_only : (P : Refusal → Type 0) → ((k : ℕ) → 1 ≤ k → P (numbered k)) → OnlyWith P more →
      (why : Refusal) → lent_refusal n outer_place ts scratch slices more ≡ some why → P why
  lent_refusal_only P numbers h why e =
      only_row P 1 (λ _. row1 most_vertices n) (two ∷ rest) (numbers 1 (omega arith))
      (only_row P 2 (λ _. row2 (lent n ts scratch slices)) rest (numbers 2 (omega arith))
      (only_row P 21 (λ _. row21 n outer_place) more (numbers 21 (omega arith)) h))
      why (sym all-rows ∙ e)

  -- where nothing is found, n is in range, every slice has its length, there is such a triangle, and the rows after them found nothing
  pub lent_refusal-none : lent_refusal n outer_place ts scratch slices more ≡ none
      → (row1 most_vertices n ≡ false) × (length ts ≡ triangles_length n) × (length scratch ≡ scratch_length n) × (row2 slices ≡ false)
      × (outer_place < 2 * n - 4) × (first_refusal more ≡ none)
  lent_refusal-none e =
      let r1 = refusal-cons one (two ∷ rest) (sym all-rows ∙ e) in
      let r2 = refusal-cons two rest r1.1 in
      let r21 = refusal-cons (row 21 (λ _. row21 n outer_place)) more r2.1 in
      let l = row-none 2 (λ _. row2 (lent n ts scratch slices)) r2.0 in
      let t = (row2-cons (length ts) (triangles_length n) (slice (length scratch) (scratch_length n) ∷ slices)).0 l in
      let s = (row2-cons (length scratch) (scratch_length n) slices).0 t.1 in
      let there = (row21_means n outer_place).0 (row-none 21 (λ _. row21 n outer_place) r21.0) in
      (row-none 1 (λ _. row1 most_vertices n) r1.0, t.0, s.0, s.1, there, r21.1)

-- In most calls these are the rows of the mesh and then the call's own.
module _ (n outer_place : ℕ) (ts : List ℕ) (scratch : List ℤ) (slices : List Slice) (own : List Row) where
  pub call_refusal-rest : row1 most_vertices n ≡ false → row2 (lent n ts scratch slices) ≡ false →
      call_refusal n outer_place ts scratch slices own ≡ first_refusal (rim_rows n outer_place ts ++ own)
  unfolding call_refusal rim_rows
  call_refusal-rest e f = lent_refusal-rest n outer_place ts scratch slices (mesh_rows n (fronted outer_place ts) ++ own) e f

  pub call_refusal-mesh : (why : Refusal) → row1 most_vertices n ≡ false → row2 (lent n ts scratch slices) ≡ false →
      first_refusal (rim_rows n outer_place ts) ≡ some why → call_refusal n outer_place ts scratch slices own ≡ some why
  call_refusal-mesh why e f g = call_refusal-rest e f ∙ refusal-first (rim_rows n outer_place ts) own why g

  pub call_refusal-own : row1 most_vertices n ≡ false → row2 (lent n ts scratch slices) ≡ false → first_refusal (rim_rows n outer_place ts) ≡ none →
      call_refusal n outer_place ts scratch slices own ≡ first_refusal own
  call_refusal-own e f g = call_refusal-rest e f ∙ refusal-more (rim_rows n outer_place ts) own g

  -- a call refuses with a number or with a vertex
  pub call_refusal_only : (P : Refusal → Type 0) → ((k : ℕ) → 1 ≤ k → P (numbered k)) → ((v : ℕ) → P (vertex_pinched v)) →
      ((v : ℕ) → P (vertex_stray v)) → OnlyWith P own → (why : Refusal) → call_refusal n outer_place ts scratch slices own ≡ some why → P why
  unfolding call_refusal
  call_refusal_only P numbers pinched stray h why e =
      let mesh = mesh_rows n (fronted outer_place ts) in
      lent_refusal_only n outer_place ts scratch slices (mesh ++ own) P numbers
      (only_more P mesh own (only_mesh P (λ k l. numbers k (omega arith)) pinched stray n (fronted outer_place ts)) h)
      why e

  -- where nothing is found, the mesh is accepted, every slice has its length, and the call's own rows found nothing
  pub call_refusal-none : call_refusal n outer_place ts scratch slices own ≡ none
      → (outer_place < 2 * n - 4) × Accepted n (fronted outer_place ts) × (length scratch ≡ scratch_length n) × (row2 slices ≡ false)
      × (first_refusal own ≡ none)
  unfolding call_refusal
  call_refusal-none e =
      let r = lent_refusal-none n outer_place ts scratch slices (mesh_rows n (fronted outer_place ts) ++ own) e in
      let b = refusal-both (mesh_rows n (fronted outer_place ts)) own r.5 in
      (r.4, (r.0, length-fronted outer_place ts ∙ r.1, b.0), r.2, r.3, b.1)
