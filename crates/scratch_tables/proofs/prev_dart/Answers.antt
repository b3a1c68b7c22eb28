-- `scratch_tables::prev_dart` meets its contract: the remainder decides which corner of the triangle it is. Assumes nothing.
use Rattle.std.proofs.Common.{arith}
use Rattle.definitions.specs.Mesh.{prev}
use Rattle.scratch_tables.proofs.prev_dart.Goals as goal

pub returns-then-d-eq0 : goal.returns-then-d-eq0
unfolding prev
returns-then-d-eq0 c = omega arith

pub returns-else-d-eq0 : goal.returns-else-d-eq0
unfolding prev
returns-else-d-eq0 c = omega (arith, c.if-d-eq0.false)
