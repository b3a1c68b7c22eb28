-- Rows 1 and 2 as a call on a mesh hands them on: their numbers, of which none is 0. Assumes nothing.
use Rattle.std.specs.Prelude.{◌≡◌, refl, Err}
use Rattle.std.proofs.Common.{arith}
use Rattle.definitions.specs.Answers.{numbered}
use Rattle.lent_slices.specs.Lengths.{row_in}
use Rattle.lent_slices.specs.declared.SizeRefusal.{SizeRefusal}
use Rattle.lent_slices.specs.declared.SizeRefusal.TheVariants.{VertexCount, SliceLength}
use Rattle.mesh_answer.specs.Answer.{to_refusal, of_size}

pub size_told : (size : SizeRefusal) → to_refusal (of_size size) ≡ numbered (row_in (Err size))
size_told VertexCount = refl
size_told SliceLength = refl

pub size_some : (size : SizeRefusal) → row_in (Err size) ≡ 0 → ⊥
size_some VertexCount e = absurd (omega arith)
size_some SliceLength e = absurd (omega arith)
