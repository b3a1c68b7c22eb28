-- What a call answers: its value, or a refusal with its number and what it carries. How rows of the table of refusals are asked in turn. Definitions only.
use Rattle.std.specs.Prelude.{ℕ, Bool, cond, List, [], ◌∷◌, Float}
use Rattle.std.proofs.Math.Option.{Option, none, some}

-- A refusal carries its number only; 7 and 25 add the vertex, 13 the count of raises so far, 16 its share, 17 the line.
pub data Refusal : Type 0 where
  numbered : ℕ → Refusal
  vertex_pinched : ℕ → Refusal
  vertex_stray : ℕ → Refusal
  stopped_after : ℕ → Refusal
  share_outside : Float → Refusal
  line_broken : ℕ → Refusal

abbrev pub number : Refusal → ℕ
number (numbered k) = k
number (vertex_pinched v) = 7
number (vertex_stray v) = 25
number (stopped_after count) = 13
number (share_outside share) = 16
number (line_broken line) = 17

pub data Answer (A : Type 0) : Type 0 where
  done : A → Answer A
  refused : Refusal → Answer A

-- A row of the table waits to be asked, and gives the refusal where it finds something. Most rows are a number and a test.
abbrev pub Row : Type 0
Row = Unit {0} → Option Refusal

abbrev pub row : ℕ → (Unit {0} → Bool) → Row
row k test asked = cond (test asked) (some (numbered k)) none

-- the refusal of the first row that finds something, each asked only where those before it found nothing
unfoldable pub first_refusal : List Row → Option Refusal
first_refusal [] = none
first_refusal (ahead ∷ rows) = elim (ahead tt) [ some why ↦ some why | none ↦ first_refusal rows ]

-- the answer that goes with it
abbrev pub answer_of : {A : Type 0} → A → Option Refusal → Answer A
answer_of x none = done x
answer_of x (some why) = refused why
