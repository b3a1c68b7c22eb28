-- `text_parse::split_once` meets its contract, by the place that was found. Assumes nothing.
use Rattle.text_model.specs.Positions.{from_is}
use Rattle.std.proofs.Common.{add-one, refl}
use Rattle.text_parse.specs.LineSteps.{place-none, place_some}
use Rattle.text_parse.proofs.split_once.Goals as goal

pub returns-in_err-k : goal.returns-in_err-k
returns-in_err-k c = rw c.from_residual.ensures (place-none c.args.b c.args.s.now c.in_err-k.ensures)

pub returns : goal.returns
returns c =
    let h = place_some c.args.b c.args.s.now c.in_ok-k.k c.in_ok-k.ensures in
    rw (from_is, add-one, ← h.1) (h.0, c.front.ensures, refl)
