-- `scratch_tables::next_dart` meets its contract: the remainder decides which corner of the triangle it is. Assumes nothing.
use Rattle.std.proofs.Common.{arith}
use Rattle.definitions.specs.Mesh.{next}
use Rattle.scratch_tables.proofs.next_dart.Goals as goal

pub returns-then-d-eq2 : goal.returns-then-d-eq2
unfolding next
returns-then-d-eq2 c = omega arith

pub returns-else-d-eq2 : goal.returns-else-d-eq2
unfolding next
returns-else-d-eq2 c = omega (arith, c.if-d-eq2.false)
