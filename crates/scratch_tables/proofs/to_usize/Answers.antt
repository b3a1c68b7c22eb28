-- `scratch_tables::to_usize` meets its contract: without its highest bit a word is a natural number. Assumes nothing.
use Rattle.std.proofs.Common.{of_z, w64}
use lib.Bits.{and_mask, mask_lt}
use mir.Facts.{to_z_pos}
use Rattle.scratch_tables.specs.Tables.{to_natural}
use Rattle.scratch_tables.proofs.to_usize.Goals as goal

pub returns : goal.returns
unfolding to_natural
returns c =
    let few = mask_lt (of_z w64 c.args.x) 63 in
    rw (to_z_pos w64 few) (and_mask (of_z w64 c.args.x) 63, few)
