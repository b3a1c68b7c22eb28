-- What a text that is read comes to, in numbers: a job has 3 to 256 vertices, and a line that breaks the layout is one of its lines or the one after them.
-- Assumes nothing.
use Rattle.std.specs.Prelude.{ℕ, zero, suc, ◌+◌, ◌-◌, ◌*◌, ◌≤◌, ◌<◌, ◌≡◌, refl, Bool, true, false, List, [], ◌∷◌, ltb, length, ℤ}
use Rattle.std.proofs.Math.Option.{Option, none, some}
use Rattle.std.proofs.Common.{arith, ltb-false}
use Rattle.definitions.specs.Answers.{Answer, done, refused, numbered, vertex_pinched, vertex_stray, stopped_after, share_outside, line_broken}
use Rattle.definitions.specs.Refusals.{row1}
use Rattle.definitions.specs.Job.{SplitLine, split_line, fields, Read, got, breaks, read_line, read_lines, head_line, triangle_line, weight_line, Job, read_body}
use Rattle.definitions.specs.Job.{read_job}

breaks-same : {A : Type 0} (k l : ℕ) → ◌≡◌ {A = Read A} (breaks k) (breaks l) → l ≡ k
breaks-same k l e = cc

pub line_breaks : {A : Type 0} (layout : List (List ℕ) → Option A) (at : ℕ) (text : List ℕ) (l : ℕ) → read_line layout at text ≡ breaks l →
    l ≡ at
unfolding read_line
line_breaks {A} layout at text l e = go (split_line text) refl
  where
    given : (c : SplitLine) → split_line text ≡ some c → (o : Option A) → layout (fields c.line) ≡ o → l ≡ at
    given c q none p = breaks-same at l (rw (p, read_line) at (rw (q, read_line) at e))
    given c q (some x) p = cc (rw (p, read_line) at (rw (q, read_line) at e))

    go : (o : Option SplitLine) → split_line text ≡ o → l ≡ at
    go none q = breaks-same at l (rw (q, read_line) at e)
    go (some c) q = given c q (layout (fields c.line)) refl

-- the line that breaks is among those that are read
pub lines_break : {A : Type 0} (layout : List (List ℕ) → Option A) (k at : ℕ) (text : List ℕ) (l : ℕ) → read_lines layout k at text ≡ breaks l
    → l < at + k
unfolding read_lines
lines_break layout zero at text l e = let z : ◌≡◌ {A = ℕ} 0 1 = cc in absurd (omega arith)
lines_break {A} layout (suc k) at text l e = go (λ rest m. lines_break layout k (suc at) rest m) (read_line layout at text) refl
  where
    more : ((rest : List ℕ) (m : ℕ) → read_lines layout k (suc at) rest ≡ breaks m → m < suc at + k) → (x : A) (rest : List ℕ) →
        read_line layout at text ≡ got x rest → (r : Read (List A)) → read_lines layout k (suc at) rest ≡ r → l < at + suc k
    more later x rest p (breaks m) q = omega (arith, breaks-same m l (rw (q, read_lines) at (rw (p, read_lines) at e)), later rest m q)
    more later x rest p (got xs end) q = let z : ◌≡◌ {A = ℕ} 0 1 = cc (rw (q, read_lines) at (rw (p, read_lines) at e)) in absurd (omega arith)

    go : ((rest : List ℕ) (m : ℕ) → read_lines layout k (suc at) rest ≡ breaks m → m < suc at + k) → (r : Read A) → read_line layout at text ≡ r
        → l < at + suc k
    go later (breaks m) p = omega (arith, breaks-same m l (rw (p, read_lines) at e), line_breaks layout at text m p)
    go later (got x rest) p = more later x rest p (read_lines layout k (suc at) rest) refl

-- what a text's answer keeps to
abbrev pub Fits : Answer Job → Type 0
Fits (done job) = (3 ≤ job.n) × (job.n ≤ 256)
Fits (refused (numbered k)) = Unit {0}
Fits (refused (vertex_pinched v)) = Unit {0}
Fits (refused (vertex_stray v)) = Unit {0}
Fits (refused (stopped_after count)) = Unit {0}
Fits (refused (share_outside share)) = Unit {0}
Fits (refused (line_broken l)) = l ≤ 1017

body_fits : (n : ℕ) (text : List ℕ) → 3 ≤ n → n ≤ 256 → Fits (read_body n text)
unfolding read_body
body_fits n text least most = go (read_lines triangle_line (2 * n - 4) 2 text) refl
  where
    weights : (ts : List (List ℕ)) (rest : List ℕ) → read_lines triangle_line (2 * n - 4) 2 text ≡ got ts rest
        → (r : Read (List ℤ)) → read_lines weight_line (2 * n - 5) (2 * n - 2) rest ≡ r → Fits (read_body n text)
    weights ts rest p (breaks m) q = rw (p, read_body) (rw (q, read_body) (omega (arith, lines_break weight_line (2 * n - 5) (2 * n - 2) rest m q)))
    weights ts rest p (got ws []) q = rw (p, read_body) (rw (q, read_body) (least, most))
    weights ts rest p (got ws (b ∷ more)) q = rw (p, read_body) (rw (q, read_body) (omega arith))

    go : (r : Read (List (List ℕ))) → read_lines triangle_line (2 * n - 4) 2 text ≡ r → Fits (read_body n text)
    go (breaks m) p = rw (p, read_body) (omega (arith, lines_break triangle_line (2 * n - 4) 2 text m p))
    go (got ts rest) p = weights ts rest p (read_lines weight_line (2 * n - 5) (2 * n - 2) rest) refl

pub job_fits : (text : List ℕ) → Fits (read_job text)
unfolding read_job row1
job_fits text = long (ltb 16384 (length text)) refl
  where
    sized : ltb 16384 (length text) ≡ false → (n : ℕ) (rest : List ℕ) → read_line head_line 1 text ≡ got n rest → (few many : Bool) →
        ltb n 3 ≡ few → ltb 256 n ≡ many
        → Fits (read_job text)
    sized s n rest p true many f g = rw (s, read_job) (rw (p, read_job) (rw (f, read_job) tt))
    sized s n rest p false true f g = rw (s, read_job) (rw (p, read_job) (rw (f, g, read_job) tt))
    sized s n rest p false false f g = rw (s, read_job) (rw (p, read_job) (rw (f, g, read_job) (body_fits n rest (ltb-false n 3 f) (ltb-false 256 n g))))

    first : ltb 16384 (length text) ≡ false → (r : Read ℕ) → read_line head_line 1 text ≡ r → Fits (read_job text)
    first s (breaks l) p = rw (s, read_job) (rw (p, read_job) (omega (arith, line_breaks head_line 1 text l p)))
    first s (got n rest) p = sized s n rest p (ltb n 3) (ltb 256 n) refl refl

    long : (b : Bool) → ltb 16384 (length text) ≡ b → Fits (read_job text)
    long true s = rw (s, read_job) tt
    long false s = first s (read_line head_line 1 text) refl
