-- What each part of the reader answers, and how the parts make up the whole. Assumes nothing.
use Rattle.std.specs.Prelude.{ℕ, ◌*◌, ◌-◌, ◌≤◌, ◌<◌, ◌≡◌, List, length, take, ℤ, Result, Ok, Err, None, Some}
use Rattle.std.specs.Prelude.{Option as Maybe}
use Rattle.std.proofs.Math.Path.{sym, ap}
use Rattle.std.proofs.Common.{◌∙◌}
use Rattle.definitions.specs.Answers.{refused, numbered, line_broken}
use Rattle.definitions.specs.Job.{got, breaks, read_line, read_lines, head_line, triangle_line, weight_line, read_job}
use Rattle.text_model.specs.Positions.{after_line}
use Rattle.text_model.specs.Reading.{line_of, flat, with_triangles, with_weights, weights-end, weights_extra, job_broken, job_few, job_many, job_body}
use Rattle.text_parse.specs.Answer.{option_of}
use Rattle.text_read_job.specs.declared.ReadError.{ReadError}
use Rattle.text_read_job.specs.declared.ReadError.TheVariants.{Line}
use Rattle.text_read_job.specs.Answer.{answer_of, Sized}

-- ---- the end: weights from the front of a text on

pub record Ends (text : List ℕ) (n : ℕ) (ws : List ℤ) (r : Result ℕ ReadError) : Type 0 where
  pub is : (ts : List ℕ) → answer_of r ts ws ≡ with_weights n (take (3 * (2 * n - 4)) ts) (read_lines weight_line (2 * n - 5) (2 * n - 2) text)
  pub size : Sized r

module _ (text : List ℕ) (n : ℕ) (ws : List ℤ) where
  pub end_broken : (l : ℕ) → breaks l ≡ read_lines weight_line (2 * n - 5) (2 * n - 2) text → Ends text n ws (Err (Line l))
  unfolding with_weights
  end_broken l e = record { is = λ ts. ap (with_weights n (take (3 * (2 * n - 4)) ts)) e; size = tt }

  module _ (rest : List ℕ) (e : got (take (2 * n - 5) ws) rest ≡ read_lines weight_line (2 * n - 5) (2 * n - 2) text) where
    pub end_extra : 0 < length rest → Ends text n ws (Err (Line (4 * n - 7)))
    end_extra h =
        record {
          is =
              λ ts.
              sym (weights_extra n (take (3 * (2 * n - 4)) ts) (take (2 * n - 5) ws) rest h) ∙ ap (with_weights n (take (3 * (2 * n - 4)) ts)) e;
          size = tt;
        }

    pub end-job : length rest ≡ 0 → 3 ≤ n → n ≤ 256 → Ends text n ws (Ok n)
    end-job h a b =
        record {
          is =
              λ ts.
              sym (weights-end n (take (3 * (2 * n - 4)) ts) (take (2 * n - 5) ws) rest h) ∙ ap (with_weights n (take (3 * (2 * n - 4)) ts)) e;
          size = (a, b);
        }

-- ---- the lines after the first

pub record Comes (text : List ℕ) (n : ℕ) (ts : List ℕ) (ws : List ℤ) (r : Result ℕ ReadError) : Type 0 where
  pub is : answer_of r ts ws ≡ with_triangles n (flat (read_lines triangle_line (2 * n - 4) 2 text))
  pub size : Sized r

module _ (text : List ℕ) (n : ℕ) (ts : List ℕ) (ws : List ℤ) where
  pub comes_broken : (l : ℕ) → breaks l ≡ flat (read_lines triangle_line (2 * n - 4) 2 text) → Comes text n ts ws (Err (Line l))
  unfolding with_triangles
  comes_broken l e = record { is = ap (with_triangles n) e; size = tt }

  pub comes_next : (rest : List ℕ) (r : Result ℕ ReadError)
      → got (take (3 * (2 * n - 4)) ts) rest ≡ flat (read_lines triangle_line (2 * n - 4) 2 text) → Ends rest n ws r → Comes text n ts ws r
  unfolding with_triangles
  comes_next rest r e d = record { is = d.is ts ∙ ap (with_triangles n) e; size = d.size }

-- ---- the whole text

-- the first line, which was read from what was lent
module _ (text lent : List ℕ) (h : length text ≤ 16384) (g : lent ≡ text) (o : Maybe ℕ)
    (r : (l : ℕ) → line_of (option_of o) l lent ≡ read_line head_line l lent) where
  head_is : (p : Maybe ℕ) → o ≡ p → read_line head_line 1 text ≡ line_of (option_of p) 1 text
  head_is p e = sym (rw (g, e) at (r 1))

  pub whole_broken : o ≡ None → refused (line_broken 1) ≡ read_job text
  unfolding line_of
  whole_broken e = sym (job_broken text h 1 (head_is None e))

  module _ (n v : ℕ) (f : n ≡ v) (e : o ≡ Some v) where
    got_head : read_line head_line 1 text ≡ got n (after_line text)
    unfolding line_of
    got_head = rw f (head_is (Some v) e)

    pub whole_few : n < 3 → refused (numbered 1) ≡ read_job text
    whole_few a = sym (job_few text h n (after_line text) got_head a)

    pub whole_many : 256 < n → refused (numbered 1) ≡ read_job text
    whole_many a = sym (job_many text h n (after_line text) got_head a)

    pub whole_body : (rest ts : List ℕ) (ws : List ℤ) (q : Result ℕ ReadError) → rest ≡ after_line text → 3 ≤ n → n ≤ 256 → Comes rest n ts ws q
        → answer_of q ts ws ≡ read_job text
    whole_body rest ts ws q p a b d =
        d.is
        ∙ ap (λ (s : List ℕ). with_triangles n (flat (read_lines triangle_line (2 * n - 4) 2 s))) p
        ∙ sym (job_body text h n (after_line text) got_head a b)
