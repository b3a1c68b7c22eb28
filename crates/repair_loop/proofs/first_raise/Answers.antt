-- `repair_loop::first_raise` meets its contract: the larger of the two. Assumes nothing.
use Rattle.std.proofs.Common.{arith, pos, refl, to_z-of_z, ◌∙◌}
use Rattle.int64.specs.Whole.{fits_minus, held}
use Rattle.repair_area.specs.Areas.{max_is}
use Rattle.repair_loop.proofs.first_raise.Goals as goal

pub returns : goal.returns
returns c =
    let max = rw (to_z-of_z c.ranges.total) at c.max.ensures.value in
    let lack = fits_minus (pos 1) c.args.total (omega (arith, c.requires.1)) in
    held _ c.max.type_inv ∙ max_is _ _ _ max _ _ c.raise_at-own.type_inv lack.sfits c.raise_at-own.ensures.is refl
