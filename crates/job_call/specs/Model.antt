-- What becomes of a job that is read, and of a listing that goes into a buffer: the parts of `Job.run_job` and `Job.host_call`. Definitions only.
use Rattle.std.specs.Prelude.{ℕ, ◌≤◌, ◌≡◌, cond, List, ◌++◌, ltb, length, drop, ℤ}
use Rattle.definitions.specs.Lists.{total}
use Rattle.definitions.specs.Mesh.{triangles_length, weights_length}
use Rattle.definitions.specs.Answers.{Answer, done, refused, numbered}
use Rattle.definitions.specs.Job.{Job, repair_job, listing, told_with_text, refusal_number}

-- the job on n vertices with these triangles and weights
abbrev pub job_of : ℕ → List ℕ → List ℤ → Job
job_of n ts ws = record { n = n; triangles = ts; weights = ws }

-- its listing, or its refusal
abbrev pub ran : ℕ → List ℕ → List ℤ → Answer (List ℕ)
ran n ts ws =
    let end = repair_job (job_of n ts ws) in
    elim end.answer [
      | refused why ↦ refused (told_with_text why)
      | done raises ↦ done (listing n (total end.weights) raises end.coordinates)
    ]

-- a job with 3 to 256 vertices and slices of its lengths
pub record Fitting (n : ℕ) (ts : List ℕ) (ws : List ℤ) : Type 0 where
  pub least : 3 ≤ n
  pub most : n ≤ 256
  pub triangles : length ts ≡ triangles_length n
  pub weights : length ws ≡ weights_length n

-- The answer and the buffer at the end: the listing's length, with the listing at the front and bytes past it as they were; or a refusal, 18 where the
-- buffer is too short, and all of it as it was.
pub record Outcome : Type 0 where
  pub answer : Answer ℕ
  pub buffer : List ℕ

abbrev pub outcome : Answer (List ℕ) → List ℕ → Outcome
outcome a buffer =
    elim a [
      | refused why ↦ record { answer = refused why; buffer = buffer }
      | done bytes ↦
          cond (ltb (length buffer) (length bytes)) (record { answer = refused (numbered 18); buffer = buffer })
          (record { answer = done (length bytes); buffer = bytes ++ drop (length bytes) buffer })
    ]

-- the host's number for it
abbrev pub host_number : Answer ℕ → ℕ
host_number (done k) = k
host_number (refused why) = refusal_number why
