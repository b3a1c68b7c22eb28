-- Lines read one after another: what one line more adds, and what the whole text then comes to. Assumes nothing.
use Rattle.std.specs.Prelude.{ℕ, suc, ◌-◌, ◌*◌, ◌≤◌, ◌<◌, ◌≡◌, length, ℤ}
use Rattle.std.proofs.Math.Path.{refl, sym, ap}
use Rattle.std.proofs.Common.{◌∙◌, arith}
use mathlib.Core.List.{List, [], ◌∷◌, ◌++◌, flat_map, append_assoc}
use Rattle.std.proofs.Math.Option.{Option, none, some}
use Rattle.std.proofs.Math.ListN.{take}
use borrow.Author.Tests.{lt-ltb, le-ltb}
use Rattle.definitions.specs.Answers.{Answer, done, refused, numbered, line_broken}
use Rattle.definitions.specs.Refusals.{row1}
use Rattle.definitions.specs.Job.{LF, fields, head_line, triangle_line, weight_line, Read, got, breaks, read_line, read_lines, Job, read_body, read_job}
use Rattle.text_model.specs.Positions.{index_of, cut_none, cut_some, after_line}

-- ---- one line

module _ {A : Type 0} (layout : List (List ℕ) → Option A) (text : List ℕ) (at : ℕ) where
  pub line_none : length text ≤ index_of LF text → read_line layout at text ≡ breaks at
  unfolding read_line
  line_none h = rw (cut_none text h, read_line)

  pub line_broken_lem : index_of LF text < length text → layout (fields (take (index_of LF text) text)) ≡ none → read_line layout at text ≡ breaks at
  unfolding read_line
  line_broken_lem h e = rw (cut_some text h, read_line) (rw (e, read_line))

  pub line_got : (x : A) → index_of LF text < length text → layout (fields (take (index_of LF text) text)) ≡ some x →
      read_line layout at text ≡ got x (after_line text)
  unfolding read_line after_line
  line_got x h e = rw (cut_some text h, read_line) (rw (e, read_line))

-- what a layout found in the first line of a text, as the reading of that line
unfoldable pub line_of : {A : Type 0} → Option A → ℕ → List ℕ → Read A
unfolding after_line
line_of none at text = breaks at
line_of (some x) at text = got x (after_line text)

module _ {A : Type 0} (layout : List (List ℕ) → Option A) (text line : List ℕ) (k : ℕ) (o : Option A) where
  -- a line that ends at k
  pub line_of_lem : k ≡ index_of LF text → k < length text → line ≡ take k text → o ≡ layout (fields line) → (at : ℕ) →
      line_of o at text ≡ read_line layout at text
  unfolding line_of
  line_of_lem e h l f at = go o refl
    where
      same : layout (fields (take (index_of LF text) text)) ≡ o
      same = ap (λ (s : List ℕ). layout (fields s)) (ap (λ (j : ℕ). take j text) (sym e) ∙ sym l) ∙ sym f

      go : (p : Option A) → o ≡ p → line_of o at text ≡ read_line layout at text
      go none q = rw q (sym (line_broken_lem layout text at (omega arith) (same ∙ q)))
      go (some x) q = rw q (sym (line_got layout text at x (omega arith) (same ∙ q)))

-- a text with no LF
pub no_line_of : {A : Type 0} (layout : List (List ℕ) → Option A) (text : List ℕ) (k : ℕ) → k ≡ index_of LF text → length text ≤ k
    → (at : ℕ) → line_of none at text ≡ read_line layout at text
unfolding line_of
no_line_of layout text k e h at = sym (line_none layout text at (omega arith))

-- ---- several lines

-- with what was read before
unfoldable pub prefix : {A : Type 0} → List A → Read (List A) → Read (List A)
prefix xs (got ys rest) = got (xs ++ ys) rest
prefix xs (breaks l) = breaks l

pub prefix-none : {A : Type 0} (r : Read (List A)) → prefix [] r ≡ r
unfolding prefix
prefix-none (got ys rest) = refl
prefix-none (breaks l) = refl

pub prefix-prefix : {A : Type 0} (xs ys : List A) (r : Read (List A)) → prefix xs (prefix ys r) ≡ prefix (xs ++ ys) r
unfolding prefix
prefix-prefix xs ys (got zs rest) = rw (append_assoc xs ys zs)
prefix-prefix xs ys (breaks l) = refl

module _ {A : Type 0} (layout : List (List ℕ) → Option A) (k at : ℕ) (text : List ℕ) where
  pub lines_broken : (l : ℕ) → read_line layout at text ≡ breaks l → read_lines layout (suc k) at text ≡ breaks l
  unfolding read_lines
  lines_broken l e = rw (e, read_lines)

  pub lines_more : (x : A) (rest : List ℕ) → read_line layout at text ≡ got x rest
      → read_lines layout (suc k) at text ≡ prefix (x ∷ []) (read_lines layout k (suc at) rest)
  unfolding read_lines prefix
  lines_more x rest e = rw (e, read_lines) (go (read_lines layout k (suc at) rest))
    where
      go : (r : Read (List A)) → elim r as (λ r. Read (List A)) [ breaks l ↦ breaks l | got xs end ↦ got (x ∷ xs) end ] ≡ prefix (x ∷ []) r
      go (got xs end) = refl
      go (breaks l) = refl

-- ---- triangles, one after another in one list

unfoldable pub flat : Read (List (List ℕ)) → Read (List ℕ)
unfolding flat_map
flat (got ts rest) = got (flat_map (λ t. t) ts) rest
flat (breaks l) = breaks l

flat-prefix : (t : List ℕ) (r : Read (List (List ℕ))) → flat (prefix (t ∷ []) r) ≡ prefix t (flat r)
unfolding flat prefix flat_map
flat-prefix t (got ts rest) = refl
flat-prefix t (breaks l) = refl

module _ (k at : ℕ) (text : List ℕ) where
  pub triangles_broken : (l : ℕ) → read_line triangle_line at text ≡ breaks l → flat (read_lines triangle_line (suc k) at text) ≡ breaks l
  unfolding flat
  triangles_broken l e = ap flat (lines_broken triangle_line k at text l e)

  pub triangles-more : (t rest : List ℕ) → read_line triangle_line at text ≡ got t rest
      → flat (read_lines triangle_line (suc k) at text) ≡ prefix t (flat (read_lines triangle_line k (suc at) rest))
  triangles-more t rest e = ap flat (lines_more triangle_line k at text t rest e) ∙ flat-prefix t (read_lines triangle_line k (suc at) rest)

-- ---- the lines after the first

-- what comes of the weights, after the triangles
unfoldable pub with_weights : ℕ → List ℕ → Read (List ℤ) → Answer Job
with_weights n ts (breaks l) = refused (line_broken l)
with_weights n ts (got ws []) = done (record { n = n; triangles = ts; weights = ws })
with_weights n ts (got ws (b ∷ more)) = refused (line_broken (4 * n - 7))

unfoldable pub with_triangles : ℕ → Read (List ℕ) → Answer Job
unfolding with_weights
with_triangles n (breaks l) = refused (line_broken l)
with_triangles n (got ts rest) = with_weights n ts (read_lines weight_line (2 * n - 5) (2 * n - 2) rest)

pub body_flat : (n : ℕ) (text : List ℕ) → read_body n text ≡ with_triangles n (flat (read_lines triangle_line (2 * n - 4) 2 text))
unfolding read_body with_triangles with_weights flat
body_flat n text = go (read_lines triangle_line (2 * n - 4) 2 text) refl
  where
    weights : (ts : List (List ℕ)) (rest : List ℕ) (r : Read (List ℤ)) → read_lines weight_line (2 * n - 5) (2 * n - 2) rest ≡ r
        → read_lines triangle_line (2 * n - 4) 2 text ≡ got ts rest → read_body n text ≡ with_weights n (flat_map (λ t. t) ts) r
    weights ts rest (breaks l) e f = rw (f, read_body) (rw (e, read_body))
    weights ts rest (got ws []) e f = rw (f, read_body) (rw (e, read_body))
    weights ts rest (got ws (b ∷ more)) e f = rw (f, read_body) (rw (e, read_body))

    go : (r : Read (List (List ℕ))) → read_lines triangle_line (2 * n - 4) 2 text ≡ r → read_body n text ≡ with_triangles n (flat r)
    go (breaks l) e = rw (e, read_body)
    go (got ts rest) e = weights ts rest (read_lines weight_line (2 * n - 5) (2 * n - 2) rest) refl e

pub weights-end : (n : ℕ) (ts : List ℕ) (ws : List ℤ) (rest : List ℕ) → length rest ≡ 0
    → with_weights n ts (got ws rest) ≡ done (record { n = n; triangles = ts; weights = ws })
unfolding with_weights
weights-end n ts ws [] e = refl
weights-end n ts ws (b ∷ rest) e = absurd (omega arith)

pub weights_extra : (n : ℕ) (ts : List ℕ) (ws : List ℤ) (rest : List ℕ) → 0 < length rest →
    with_weights n ts (got ws rest) ≡ refused (line_broken (4 * n - 7))
unfolding with_weights
weights_extra n ts ws [] e = absurd (omega arith)
weights_extra n ts ws (b ∷ rest) e = refl

-- ---- the whole text

pub job_long : (text : List ℕ) → 16384 < length text → read_job text ≡ refused (numbered 19)
unfolding read_job
job_long text h = rw (lt-ltb 16384 (length text) h, read_job)

module _ (text : List ℕ) (h : length text ≤ 16384) where
  pub job_broken : (l : ℕ) → read_line head_line 1 text ≡ breaks l → read_job text ≡ refused (line_broken l)
  unfolding read_job
  job_broken l e = rw (le-ltb 16384 (length text) h, read_job) (rw (e, read_job))

  module _ (n : ℕ) (rest : List ℕ) (e : read_line head_line 1 text ≡ got n rest) where
    pub job_few : n < 3 → read_job text ≡ refused (numbered 1)
    unfolding read_job row1
    job_few a = rw (le-ltb 16384 (length text) h, read_job) (rw (e, read_job) (rw (lt-ltb n 3 a, read_job)))

    pub job_many : 256 < n → read_job text ≡ refused (numbered 1)
    unfolding read_job row1
    job_many a = rw (le-ltb 16384 (length text) h, read_job) (rw (e, read_job) (rw (le-ltb n 3 (omega arith), lt-ltb 256 n a, read_job)))

    pub job_body : 3 ≤ n → n ≤ 256 → read_job text ≡ with_triangles n (flat (read_lines triangle_line (2 * n - 4) 2 rest))
    unfolding read_job row1
    job_body a b =
        rw (le-ltb 16384 (length text) h, read_job) (rw (e, read_job) (rw (le-ltb n 3 a, le-ltb 256 n b, read_job) (body_flat n rest)))
