-- The answer of a job as document 01 states it. Definitions only.
use Rattle.std.specs.Prelude.{ℕ, ◌≤◌, ◌≡◌, List, Result, Ok, Err}
use Rattle.definitions.specs.Answers.{Answer, done, refused, numbered, line_broken, number, Refusal as Told}
use Rattle.definitions.specs.Job.{Job, repair_job}
use Rattle.mesh_answer.specs.declared.Refusal.{Refusal}
use Rattle.mesh_answer.specs.Answer.{to_refusal}
use Rattle.text_read_job.specs.declared.ReadError.{ReadError}
use Rattle.text_read_job.specs.declared.ReadError.TheVariants.{TooLong, Size, Line}
use Rattle.job_call.specs.Model.{outcome}
use Rattle.job_call.specs.declared.JobRefusal.{JobRefusal}
use Rattle.job_call.specs.declared.JobRefusal.TheVariants.{Text, Repair, ListingLength}

-- A refusal with its number only; 17 adds the line.
abbrev pub job_to_refusal : JobRefusal → Told
job_to_refusal (Text TooLong) = numbered 19
job_to_refusal (Text Size) = numbered 1
job_to_refusal (Text (Line l)) = line_broken l
job_to_refusal (Repair why) = numbered (number (to_refusal why))
job_to_refusal ListingLength = numbered 18

-- the listing's length, or the refusal
abbrev pub job_to_answer : Result ℕ JobRefusal → Answer ℕ
job_to_answer (Ok k) = done k
job_to_answer (Err why) = refused (job_to_refusal why)

-- a refusal of the text, and one of the repair
abbrev pub of_read : ReadError → JobRefusal
of_read read = Text read

abbrev pub of_repair : Refusal → JobRefusal
of_repair repair = Repair repair

-- a line that is named is at most the one after the last of the longest job, 4 * 256 - 7
abbrev pub NearLine : JobRefusal → Type 0
NearLine (Text TooLong) = Unit {0}
NearLine (Text Size) = Unit {0}
NearLine (Text (Line l)) = l ≤ 1017
NearLine (Repair why) = Unit {0}
NearLine ListingLength = Unit {0}

abbrev pub Near : Result ℕ JobRefusal → Type 0
Near (Ok k) = Unit {0}
Near (Err why) = NearLine why

-- What a refusal is, beyond what is told of it: where the text gives no job, the text's own; where it gives one, that of the job's repair with what it
-- carries, or the listing's length.
abbrev pub Exact : Answer Job → JobRefusal → Type 0
Exact (refused why) (Text read) = job_to_refusal (Text read) ≡ why
Exact (refused why) (Repair stopped) = ⊥
Exact (refused why) ListingLength = ⊥
Exact (done job) (Text read) = ⊥
Exact (done job) (Repair stopped) = (repair_job job).answer ≡ refused (to_refusal stopped)
Exact (done job) ListingLength = Unit {0}

abbrev pub ExactEnd : Answer Job → Result ℕ JobRefusal → Type 0
ExactEnd a (Ok k) = Unit {0}
ExactEnd a (Err why) = Exact a why

-- what an answer and a buffer say of a listing or a refusal
pub record Ends (a : Answer (List ℕ)) (before after : List ℕ) (r : Result ℕ JobRefusal) : Type 0 where
  pub answer : job_to_answer r ≡ (outcome a before).answer
  pub buffer : after ≡ (outcome a before).buffer
  pub line : Near r
