-- `repair_area::bad_at` meets its contract, from that of `area`. Assumes nothing.
use Rattle.std.proofs.Common.{rules}
use Rattle.int64.specs.Whole.{held_is}
use Rattle.repair_area.specs.Areas.{bad_of, area_of, product_of}
use Rattle.repair_area.proofs.bad_at.Goals as goal

pub returns : goal.returns
unfolding bad_of area_of product_of
returns c = search (held_is, rules)
