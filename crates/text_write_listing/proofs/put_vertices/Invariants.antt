-- `text_write_listing::put_vertices` meets its contract. The loop's invariant: the lines so far stand at the front. Assumes nothing.
use Rattle.text_model.specs.Writing.{Wrote, vertex_lines}
use Rattle.text_write_listing.proofs.put_vertices.Given as goal

abbrev pub invariant-loop-i : goal.invariant-loop-i
invariant-loop-i l = Wrote (vertex_lines l.bs l.i) l.initial.out l.out l.at
