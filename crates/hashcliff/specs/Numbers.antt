-- An answer told without an enum: by the number of its refusal, 0 where there is none, and by what it carries beside that. Definitions only.
use Rattle.std.specs.Prelude.{ℕ, Float}
use Rattle.definitions.specs.Answers.{Answer, done, refused, Refusal, number, numbered, vertex_pinched, vertex_stray, stopped_after, share_outside, line_broken}

abbrev pub number_of : {A : Type 0} → Answer A → ℕ
number_of (done x) = 0
number_of (refused why) = number why

-- the number that a refusal carries: the vertex of 7 and 25, the count of 13; else what was lent stays
abbrev pub carried_by : ℕ → Refusal → ℕ
carried_by lent (numbered k) = lent
carried_by lent (vertex_pinched v) = v
carried_by lent (vertex_stray v) = v
carried_by lent (stopped_after count) = count
carried_by lent (share_outside share) = lent
carried_by lent (line_broken line) = lent

-- that of an answer; a repair that is done carries its count of raises
abbrev pub carried_of : ℕ → Answer (Unit {0}) → ℕ
carried_of lent (done x) = lent
carried_of lent (refused why) = carried_by lent why

abbrev pub carried_of_repair : ℕ → Answer ℕ → ℕ
carried_of_repair lent (done count) = count
carried_of_repair lent (refused why) = carried_by lent why

-- the share of 16
abbrev pub share_of : Float → Answer (Unit {0}) → Float
share_of lent (done x) = lent
share_of lent (refused (numbered k)) = lent
share_of lent (refused (vertex_pinched v)) = lent
share_of lent (refused (vertex_stray v)) = lent
share_of lent (refused (stopped_after count)) = lent
share_of lent (refused (share_outside share)) = share
share_of lent (refused (line_broken line)) = lent
