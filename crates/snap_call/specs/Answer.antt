-- A refusal of a list of points, and the answer of the call, as document 01 states them. Definitions only.
use Rattle.std.specs.Prelude.{Result, Ok, Err}
use Rattle.definitions.specs.Answers.{Answer, done, refused, numbered, share_outside, Refusal}
use Rattle.lent_slices.specs.declared.SizeRefusal.{SizeRefusal}
use Rattle.lent_slices.specs.declared.SizeRefusal.TheVariants as Size
use Rattle.snap_call.specs.declared.SnapRefusal.{SnapRefusal}
use Rattle.snap_call.specs.declared.SnapRefusal.TheVariants.{VertexCount, SliceLength, Scale, NotFinite, Outside}

-- A refusal carries its number; 16 adds the share.
abbrev pub snap_to_refusal : SnapRefusal → Refusal
snap_to_refusal VertexCount = numbered 1
snap_to_refusal SliceLength = numbered 2
snap_to_refusal Scale = numbered 14
snap_to_refusal NotFinite = numbered 15
snap_to_refusal (Outside share) = share_outside share

-- the answer of a list of points: done, or the refusal
abbrev pub snap_to_answer : Result (Unit {0}) SnapRefusal → Answer (Unit {0})
snap_to_answer (Ok x) = done x
snap_to_answer (Err why) = refused (snap_to_refusal why)

-- rows 1 and 2
abbrev pub of_size : SizeRefusal → SnapRefusal
of_size Size.VertexCount = VertexCount
of_size Size.SliceLength = SliceLength
