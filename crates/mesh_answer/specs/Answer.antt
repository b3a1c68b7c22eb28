-- A refusal of a call on a mesh, and the answer of such a call, as the papers state them. Definitions only.
use Rattle.std.specs.Prelude.{Result, Ok, Err}
use Rattle.std.proofs.Math.Option.{Option, none, some}
use Rattle.definitions.specs.Answers.{Answer, done, refused, numbered, vertex_pinched, vertex_stray, stopped_after, Refusal as Told}
use Rattle.lent_slices.specs.declared.SizeRefusal.{SizeRefusal}
use Rattle.lent_slices.specs.declared.SizeRefusal.TheVariants as Size
use Rattle.mesh_answer.specs.declared.Refusal.{Refusal}
use Rattle.mesh_answer.specs.declared.Refusal.TheVariants.{VertexCount, SliceLength, VertexNumber, RepeatedVertex, RepeatedSide, UnpairedSide, PinchedVertex}
use Rattle.mesh_answer.specs.declared.Refusal.TheVariants.{Disconnected, WeightLimit, CoordinateLimit, OffCorner, OffSum, Stopped, OuterTriangle}
use Rattle.mesh_answer.specs.declared.Refusal.TheVariants.{StrayVertex, LowAboveHigh}

-- A refusal carries its number; 7 and 25 add the vertex, 13 the count of raises so far.
abbrev pub to_refusal : Refusal → Told
to_refusal VertexCount = numbered 1
to_refusal SliceLength = numbered 2
to_refusal VertexNumber = numbered 3
to_refusal RepeatedVertex = numbered 4
to_refusal RepeatedSide = numbered 5
to_refusal UnpairedSide = numbered 6
to_refusal (PinchedVertex v) = vertex_pinched v
to_refusal Disconnected = numbered 8
to_refusal WeightLimit = numbered 9
to_refusal CoordinateLimit = numbered 10
to_refusal OffCorner = numbered 11
to_refusal OffSum = numbered 12
to_refusal (Stopped count) = stopped_after count
to_refusal OuterTriangle = numbered 21
to_refusal (StrayVertex v) = vertex_stray v
to_refusal LowAboveHigh = numbered 29

-- what a call answers: what it gives where it is done, or the refusal
abbrev pub to_answer : {A : Type 0} → Result A Refusal → Answer A
to_answer (Ok x) = done x
to_answer (Err why) = refused (to_refusal why)

-- what is found: nothing, or a refusal
abbrev pub found_in : {A : Type 0} → Result A Refusal → Option Told
found_in (Ok x) = none
found_in (Err why) = some (to_refusal why)

-- rows 1 and 2
abbrev pub of_size : SizeRefusal → Refusal
of_size Size.VertexCount = VertexCount
of_size Size.SliceLength = SliceLength
