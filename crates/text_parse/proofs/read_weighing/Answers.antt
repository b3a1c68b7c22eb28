-- `text_parse::read_weighing` meets its contract. The word up to a tab, and then one weight. Assumes nothing.
use Rattle.std.proofs.Common.{sym, ◌∙◌}
use Rattle.text_model.specs.Layouts.{weight-begins, weight-last}
use Rattle.text_parse.specs.LineSteps.{word_none, word_some}
use Rattle.text_parse.proofs.read_weighing.Goals as goal

pub returns-in_err-after_word : goal.returns-in_err-after_word
returns-in_err-after_word c = rw c.from_residual.ensures (sym (word_none weight-begins _ c.in_err-after_word.ensures))

pub returns : goal.returns
returns c = c.read_weight.ensures ∙ sym (word_some weight-begins _ _ c.in_ok-after_word.ensures ∙ weight-last _)
