-- `scratch_tables::load` meets its contract, from that of `natural`. Assumes nothing.
use Rattle.std.proofs.Common.{SFits, ap, get_or, pos, to_z-of_z, w64, ◌∙◌}
use Rattle.scratch_tables.specs.Tables.{to_natural, word_at}
use Rattle.scratch_tables.proofs.load.Goals as goal

pub returns : goal.returns
unfolding word_at
returns c =
    let f : SFits w64 (get_or c.args.s.now c.args.i (pos 0)) = record { sfits = c.to_usize-arg-1.given } in
    (c.to_usize.ensures.0 ∙ ap to_natural (to_z-of_z f), c.to_usize.ensures.1)
