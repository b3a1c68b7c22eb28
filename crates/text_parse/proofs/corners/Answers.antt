-- `text_parse::corners` meets its contract: with no tab, with one, and by the three fields. Assumes nothing.
use Rattle.std.proofs.Common.{sym}
use Rattle.definitions.specs.Job.{three}
use Rattle.text_parse.specs.LineSteps.{corners-alone, corners-two, corners_three}
use Rattle.text_parse.proofs.corners.Goals as goal

pub returns-in_err-a : goal.returns-in_err-a
returns-in_err-a c = rw c.from_residual.ensures (sym (corners-alone _ c.in_err-a.ensures))

pub returns-in_err-b : goal.returns-in_err-b
returns-in_err-b c =
    let p = c.in_ok-a.ensures in
    rw c.from_residual-in_err-b.ensures (sym (corners-two _ _ _ p.0 p.1 p.2 c.in_err-b.ensures))

pub returns-in_err-read_vertex : goal.returns-in_err-read_vertex
unfolding three
returns-in_err-read_vertex c =
    let p = c.in_ok-a.ensures in
    let q = c.in_ok-b.ensures in
    rw (c.from_residual-in_err-read_vertex.ensures, corners_three _ _ _ p.0 p.1 p.2 _ _ q.0 q.1 q.2, ← c.in_err-read_vertex.ensures)

pub returns-in_err-read_vertex-2 : goal.returns-in_err-read_vertex-2
unfolding three
returns-in_err-read_vertex-2 c =
    let p = c.in_ok-a.ensures in
    let q = c.in_ok-b.ensures in
    rw (
      c.from_residual-in_err-read_vertex-2.ensures,
      corners_three _ _ _ p.0 p.1 p.2 _ _ q.0 q.1 q.2,
      ← c.in_ok-read_vertex.ensures,
      ← c.in_err-read_vertex-2.ensures,
    )

pub returns-in_err-read_vertex-3 : goal.returns-in_err-read_vertex-3
unfolding three
returns-in_err-read_vertex-3 c =
    let p = c.in_ok-a.ensures in
    let q = c.in_ok-b.ensures in
    rw (
      c.from_residual-in_err-read_vertex-3.ensures,
      corners_three _ _ _ p.0 p.1 p.2 _ _ q.0 q.1 q.2,
      ← c.in_ok-read_vertex.ensures,
      ← c.in_ok-read_vertex-2.ensures,
      ← c.in_err-read_vertex-3.ensures,
    )

pub returns : goal.returns
unfolding three
returns c =
    let p = c.in_ok-a.ensures in
    let q = c.in_ok-b.ensures in
    rw (
      corners_three _ _ _ p.0 p.1 p.2 _ _ q.0 q.1 q.2,
      ← c.in_ok-read_vertex.ensures,
      ← c.in_ok-read_vertex-2.ensures,
      ← c.in_ok-read_vertex-3.ensures,
    )
