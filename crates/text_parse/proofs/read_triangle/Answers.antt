-- `text_parse::read_triangle` meets its contract. The word up to a tab, and then three vertices. Assumes nothing.
use Rattle.std.proofs.Common.{sym, ◌∙◌}
use Rattle.text_model.specs.Layouts.{triangle_begins}
use Rattle.text_parse.specs.LineSteps.{word_none, word_some}
use Rattle.text_parse.proofs.read_triangle.Goals as goal

pub returns-in_err-after_word : goal.returns-in_err-after_word
returns-in_err-after_word c = rw c.from_residual.ensures (sym (word_none triangle_begins _ c.in_err-after_word.ensures))

pub returns : goal.returns
returns c = c.corners.ensures ∙ sym (word_some triangle_begins _ _ c.in_ok-after_word.ensures)
