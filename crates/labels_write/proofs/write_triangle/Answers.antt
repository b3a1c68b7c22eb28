-- `labels_write::write_triangle` meets its contract: its three labels are stored. Assumes nothing.
use Rattle.std.proofs.Common.{arith}
use Rattle.labels_write.proofs.Rows.{with_triangle_lem}
use Rattle.labels_write.proofs.write_triangle.Goals as goal

pub returns : goal.returns
returns c =
    with_triangle_lem _ _ _ _ _ _ c.apex-k.ensures.is c.requires.0.corner c.requires.1 (omega arith) c.copy_from_slice.ensures.after
