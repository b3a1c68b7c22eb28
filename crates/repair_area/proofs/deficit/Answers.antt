-- `repair_area::deficit` meets its contract: the greater of two coordinates within the limit is within it. Assumes nothing.
use Rattle.std.proofs.Common.{arith}
use Rattle.std.proofs.lemmas.Int.{ints, clamps}
use Rattle.repair_area.specs.Areas.{deficit_is}
use Rattle.repair_area.proofs.deficit.Goals as goal

pub returns-clause-is : goal.returns-clause-is
returns-clause-is c = search deficit_is

pub returns-clause-small : goal.returns-clause-small
returns-clause-small c = omega (arith, ints, clamps)
