-- `lent_slices::check_sizes` meets its contract: rows 1 and 2, one after the other. Assumes nothing.
use Rattle.std.proofs.Common.{sym, ◌∙◌}
use Rattle.lent_slices.specs.Lengths.{in_size, first-1, comparing_none, comparing_found, comparing_next, comparing_end}
use Rattle.lent_slices.proofs.check_sizes.Goals as goal

pub returns-then-other_size : goal.returns-then-other_size
returns-then-other_size c = first-1 _ _ (sym c.other_size.ensures ∙ c.if-other_size.true)

pub loop-contents-init : goal.loop-contents-init
loop-contents-init c = comparing_none _ _ (sym c.other_size.ensures ∙ c.if-other_size.false)

pub length-requires : goal.length-requires
length-requires c = search in_size

pub returns-then-length : goal.returns-then-length
returns-then-length c = search comparing_found

pub loop-contents-preserved : goal.loop-contents-preserved
loop-contents-preserved c = search comparing_next

pub returns : goal.returns
returns c = search comparing_end
