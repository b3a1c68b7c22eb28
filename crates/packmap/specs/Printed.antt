-- What packmap prints, for each answer of a job; and that no more than 16,385 bytes of a text have to be read. Assumes nothing.
use Rattle.std.specs.Prelude.{ℕ, ◌≤◌, ◌<◌, ◌^◌, Bool, take, ℤ, pos, Result, Ok, Err}
use Rattle.std.proofs.Math.Path.{◌≡◌, refl}
use Rattle.std.proofs.Common.{sym, ap, ◌∙◌, arith, length-take-le}
use Rattle.std.proofs.Math.Bool.{true, false}
use mathlib.Core.List.{List, [], ◌∷◌, ◌++◌}
use Rattle.std.proofs.Math.Dec.{ltb}
use Rattle.std.proofs.Math.ListN.{length, drop}
use borrow.Author.Tests.{ltb-true}
use Rattle.definitions.specs.Answers.{Answer, done, refused, numbered, line_broken, Refusal, number}
use Rattle.definitions.specs.Job.{bytes, write_line, run_job, line_of, told_with_text, prints}
use Rattle.text_model.specs.Numbers.{decimal_short}
use Rattle.text_model.specs.Reading.{job_long}
use Rattle.text_model.specs.Writing.{tabbed, Wrote, line_length, tabbed-more}
use Rattle.job_call.specs.Model.{outcome}
use Rattle.job_call.specs.Answer.{job_to_refusal, job_to_answer}
use Rattle.job_call.specs.Outcomes.{run-refused, listing_room}
use Rattle.job_call.specs.declared.JobRefusal.{JobRefusal}

-- the line of a refusal
abbrev pub refusal_line : ℕ → ℕ → List ℕ
refusal_line k l = write_line (bytes "refused") (pos k ∷ pos l ∷ [])

pub refusal_short : (k l : ℕ) → k < 2 ^ 32 → l < 2 ^ 32 → length (refusal_line k l) ≤ 16384
unfolding tabbed
refusal_short k l hk hl =
    rw (line_length (bytes "refused") (pos k ∷ pos l ∷ []))
    (omega (
      arith,
      tabbed-more (pos k) (pos l ∷ []),
      tabbed-more (pos l) [],
      decimal_short 9 k (omega arith),
      decimal_short 9 l (omega arith),
    ))

-- as the code hands it over: the two numbers in a list of their own
module _ (k l : ℕ) (xs : List ℤ) (is : xs ≡ pos k ∷ pos l ∷ []) (hk : k < 2 ^ 32) (hl : l < 2 ^ 32) where
  same : write_line (bytes "refused") xs ≡ refusal_line k l
  same = ap (write_line (bytes "refused")) is

  pub refusal_room : (out : List ℕ) → 16384 ≤ length out → length (write_line (bytes "refused") xs) ≤ length out
  refusal_room out room = omega (arith, refusal_short k l hk hl, ap {B = ℕ} length same)

  module _ (before after : List ℕ) (r : ℕ) (h : Wrote (write_line (bytes "refused") xs) before after r) where
    pub refusal_wrote : Wrote (refusal_line k l) before after r
    refusal_wrote = rw same at h

    pub refusal_few : r ≤ 16384
    refusal_few = omega (arith, h.count, refusal_short k l hk hl, ap {B = ℕ} length same)

-- ---- a text, and a buffer with room for every listing

module _ (text before : List ℕ) (room : 16384 ≤ length before) where
  printed_done : (k : ℕ) → done k ≡ (outcome (run_job text) before).answer →
      (k ≡ length (prints text)) × ((outcome (run_job text) before).buffer ≡ prints text ++ drop (length (prints text)) before) × (k ≤ 16384)
  unfolding prints
  printed_done k e = go (run_job text) refl
    where
      fits : (bytes : List ℕ) → run_job text ≡ done bytes → (b : Bool) → ltb (length before) (length bytes) ≡ b →
          (k ≡ length (prints text)) × ((outcome (run_job text) before).buffer ≡ prints text ++ drop (length (prints text)) before) × (k ≤ 16384)
      fits bytes p true q = absurd (omega (arith, listing_room text bytes p, ltb-true (length before) (length bytes) q))
      fits bytes p false q =
          let d : ◌≡◌ {A = Answer ℕ} (done k) (done (length bytes)) = rw q at (rw p at e) in
          let same : k ≡ length bytes = cc in
          rw (p, prints) (rw q (same, refl, omega (arith, same, listing_room text bytes p)))

      go : (a : Answer (List ℕ)) → run_job text ≡ a →
          (k ≡ length (prints text)) × ((outcome (run_job text) before).buffer ≡ prints text ++ drop (length (prints text)) before) × (k ≤ 16384)
      go (refused why) p = let z : ◌≡◌ {A = ℕ} 0 1 = cc (rw p at e) in absurd (omega arith)
      go (done bytes) p = fits bytes p (ltb (length before) (length bytes)) refl

  printed_refused : (why : Refusal) → refused why ≡ (outcome (run_job text) before).answer →
      (refusal_line (number why) (line_of why) ≡ prints text) × ((outcome (run_job text) before).buffer ≡ before)
  unfolding prints
  printed_refused why e = go (run_job text) refl
    where
      fits : (bytes : List ℕ) → run_job text ≡ done bytes → (b : Bool) → ltb (length before) (length bytes) ≡ b →
          (refusal_line (number why) (line_of why) ≡ prints text) × ((outcome (run_job text) before).buffer ≡ before)
      fits bytes p true q = absurd (omega (arith, listing_room text bytes p, ltb-true (length before) (length bytes) q))
      fits bytes p false q = let z : ◌≡◌ {A = ℕ} 0 1 = cc (rw q at (rw p at e)) in absurd (omega arith)

      go : (a : Answer (List ℕ)) → run_job text ≡ a →
          (refusal_line (number why) (line_of why) ≡ prints text) × ((outcome (run_job text) before).buffer ≡ before)
      go (refused w) p =
          let d : ◌≡◌ {A = Answer ℕ} (refused why) (refused w) = rw p at e in
          let same : why ≡ w = cc in
          rw (p, prints) (ap {A = Refusal} {B = List ℕ} (λ x. refusal_line (number x) (line_of x)) same, refl)
      go (done bytes) p = fits bytes p (ltb (length before) (length bytes)) refl

  -- as the code hands it over: the answer r of the job, and what it left in the buffer
  module _ (r : Result ℕ JobRefusal) (told-it : job_to_answer r ≡ (outcome (run_job text) before).answer) (mid : List ℕ)
      (left : mid ≡ (outcome (run_job text) before).buffer) where
    pub listed_printed : (k : ℕ) → r ≡ Ok k → Wrote (prints text) before mid k
    listed_printed k e =
        let d = printed_done k (sym (ap job_to_answer e) ∙ told-it) in
        record { count = d.0; puts = record { bytes = left ∙ d.1 } }

    pub listed_short : (k : ℕ) → r ≡ Ok k → k ≤ 16384
    listed_short k e = (printed_done k (sym (ap job_to_answer e) ∙ told-it)).2

    -- by the number k and the line l, as the code has them
    pub refused_printed : (why : JobRefusal) → r ≡ Err why → (k l : ℕ) → k ≡ number (job_to_refusal why) → l ≡ line_of (job_to_refusal why) →
        (after : List ℕ) (m : ℕ) → Wrote (refusal_line k l) mid after m → Wrote (prints text) before after m
    refused_printed why e k l f g after m h =
        let d = printed_refused (job_to_refusal why) (sym (ap job_to_answer e) ∙ told-it) in
        rw (f, g, d.0, left ∙ d.1) at h

-- ---- a text that is too long

long_prints : (text : List ℕ) → 16384 < length text → prints text ≡ refusal_line 19 0
unfolding prints told_with_text line_of
long_prints text h = rw (run-refused text (numbered 19) (job_long text h), prints) refl

-- its first 16,385 bytes say all
pub long_same : (text : List ℕ) → 16384 < length text → prints text ≡ prints (take 16385 text)
long_same text h = long_prints text h ∙ sym (long_prints (take 16385 text) (omega (arith, length-take-le 16385 text (omega arith))))
