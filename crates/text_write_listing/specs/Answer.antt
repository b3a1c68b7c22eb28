-- What the writer of a listing answers, and what its buffer then holds: nothing is written where the buffer is too short. Definitions only.
use Rattle.std.specs.Prelude.{ℕ, ◌≡◌, cond, List, ◌++◌, ltb, length, drop, Option, None, Some}

-- the bytes of a listing, a buffer before and after, and the answer
pub record Listing (bytes before after : List ℕ) (r : Option ℕ) : Type 0 where
  pub answer : r ≡ cond (ltb (length before) (length bytes)) None (Some (length bytes))
  pub buffer : after ≡ cond (ltb (length before) (length bytes)) before (bytes ++ drop (length bytes) before)
