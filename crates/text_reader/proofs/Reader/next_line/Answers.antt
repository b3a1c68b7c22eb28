-- `text_reader::Reader::next_line` meets its contract: after an LF, and with no LF left. Assumes nothing.
use Rattle.std.specs.Prelude.{ℕ, suc, ◌-◌, ◌<◌, ◌≤◌, ◌≡◌, List, length, drop}
use Rattle.std.proofs.Common.{refl, ap, ◌∙◌, arith, length-drop}
use Rattle.definitions.specs.Job.{LF}
use Rattle.text_model.specs.Positions.{index_of, next_line}
use Rattle.text_reader.proofs.Reader.next_line.Goals as goal
use Rattle.text_reader.proofs.Reader.next_line.Goals.{in-Some, in-None}

module _ (text rest : List ℕ) (at : ℕ) (e : rest ≡ drop at text) where
  after_some : (after : List ℕ) → index_of LF rest < length rest → after ≡ drop (suc (index_of LF rest)) rest → length text - length after ≡ next_line text at
  unfolding next_line
  after_some after h f =
      omega (
        arith,
        length-drop at text,
        length-drop (suc (index_of LF rest)) rest,
        ap {B = ℕ} length e,
        ap (index_of LF) e,
        ap {B = ℕ} length f,
      )

  after-none : length rest ≤ index_of LF rest → length text ≡ next_line text at
  unfolding next_line
  after-none h = omega (arith, length-drop at text, ap {B = ℕ} length e, ap (index_of LF) e)

pub returns : goal.returns
returns c = (
  refl,
  elim c.match-split_once.branch [
    | in-Some w ↦ w.at-is ∙ after_some _ _ _ c.rest.ensures _ w.in-Some.ensures.0 w.in-Some.ensures.2
    | in-None w ↦ w.at-is ∙ after-none _ _ _ c.rest.ensures w.in-None.ensures
  ],
)
