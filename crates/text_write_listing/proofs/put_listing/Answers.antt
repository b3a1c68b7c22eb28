-- `text_write_listing::put_listing` meets its contract. The first line at the front, and the others into the rest. Assumes nothing.
use Rattle.std.proofs.Common.{◌+◌, ◌≤◌, length, arith, w64, of_z, to_z}
use Rattle.text_model.specs.Writing.{head_of, vertex_lines}
use Rattle.text_write_listing.specs.LoopInvariants.{whole_room, whole_wrote}
use Rattle.text_write_listing.proofs.put_listing.Goals as goal

pub put_head-a-requires : goal.put_head-a-requires
put_head-a-requires c =
    let a = c.args in
    let room : length (head_of a.n (to_z w64 (of_z w64 a.total)) a.raises) + length (vertex_lines a.bs.now a.n) ≤ length a.out.now =
    search whole_room in
    omega arith

pub put_vertices-requires : goal.put_vertices-requires
put_vertices-requires c =
    let a = c.args in
    let room : length (head_of a.n (to_z w64 (of_z w64 a.total)) a.raises) + length (vertex_lines a.bs.now a.n) ≤ length a.out.now =
    search whole_room in
    omega arith

pub returns : goal.returns
returns c = search whole_wrote
