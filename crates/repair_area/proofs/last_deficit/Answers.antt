-- `repair_area::last_deficit` meets its contract, from that of `excess`. Assumes nothing.
use Rattle.std.proofs.Common.{arith}
use Rattle.std.proofs.lemmas.Int.{ints, clamps}
use Rattle.int64.specs.Whole.{held_is}
use Rattle.repair_area.specs.Areas.{max_is}
use Rattle.repair_area.proofs.last_deficit.Goals as goal

pub returns-clause-is : goal.returns-clause-is
returns-clause-is c = search (max_is, held_is)

pub returns-clause-small : goal.returns-clause-small
returns-clause-small c = omega (arith, ints, clamps)
