-- `repair_area::raise` meets its contract, from those of `deficit` and `last_deficit`. Assumes nothing.
use Rattle.std.proofs.Common.{rules, arith}
use Rattle.std.proofs.lemmas.Int.{ints, clamps}
use Rattle.definitions.specs.Repair.{max_z}
use Rattle.repair_area.specs.Areas.{max_is, max-size, sum_is}
use Rattle.repair_area.proofs.raise.Goals as goal

pub overflow_add-result : goal.overflow_add-result
overflow_add-result c = omega (arith, ints, clamps)

pub returns-clause-is : goal.returns-clause-is
unfolding max_z
returns-clause-is c = search (max_is, max-size, sum_is, rules)

pub returns-clause-small : goal.returns-clause-small
returns-clause-small c = omega (arith, ints, clamps)
