-- `repair_area::raise_of` meets its contract, from that of `raise`. Assumes nothing.
use Rattle.std.proofs.Common.{rules}
use Rattle.int64.specs.Whole.{held_is}
use Rattle.repair_area.specs.Areas.{raise_of, deficit_of, last_deficit_of, excess_of, sum_of}
use Rattle.repair_area.proofs.raise_of.Goals as goal

pub returns-clause-is : goal.returns-clause-is
unfolding raise_of deficit_of last_deficit_of excess_of sum_of
returns-clause-is c = search (held_is, rules)
