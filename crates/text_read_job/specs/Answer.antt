-- What the reader of a job text answers: document 01's number and line for each refusal. Definitions only.
use Rattle.std.specs.Prelude.{ℕ, ◌*◌, ◌-◌, ◌≤◌, List, take, drop, ℤ, Result, Ok, Err}
use Rattle.definitions.specs.Answers.{Answer, done, refused, numbered, line_broken}
use Rattle.definitions.specs.Job.{Read, got, breaks, Job}
use Rattle.text_reader.specs.declared.Reader.{Reader}
use Rattle.text_read_job.specs.declared.ReadError.{ReadError}
use Rattle.text_read_job.specs.declared.ReadError.TheVariants.{TooLong, Size, Line}

-- the text from a reader's next line on
abbrev pub left : Reader → List ℕ
left r = drop r.at r.text.now

-- lines that gave xs, and the rest of the text; or the line that breaks the layout
abbrev pub lines_of : {A : Type 0} → Result Reader ℕ → List A → Read (List A)
lines_of (Ok r) xs = got xs (left r)
lines_of (Err l) xs = breaks l

-- a job, with the first numbers of the lent slices; 19; 1; 17 and its line
abbrev pub answer_of : Result ℕ ReadError → List ℕ → List ℤ → Answer Job
answer_of (Ok n) ts ws = done (record { n = n; triangles = take (3 * (2 * n - 4)) ts; weights = take (2 * n - 5) ws })
answer_of (Err TooLong) ts ws = refused (numbered 19)
answer_of (Err Size) ts ws = refused (numbered 1)
answer_of (Err (Line l)) ts ws = refused (line_broken l)

-- a job has 3 to 256 vertices
abbrev pub Sized : Result ℕ ReadError → Type 0
Sized (Ok n) = (3 ≤ n) × (n ≤ 256)
Sized (Err e) = Unit {0}
