-- `text_parse::read_head` meets its contract. The fixed bytes up to a tab, and then one number. Assumes nothing.
use Rattle.std.proofs.Common.{sym, ◌∙◌}
use Rattle.text_model.specs.Layouts.{head_begins, count-last}
use Rattle.text_parse.specs.LineSteps.{word_none, word_some}
use Rattle.text_parse.proofs.read_head.Goals as goal

pub returns-in_err-after_word : goal.returns-in_err-after_word
returns-in_err-after_word c = rw c.from_residual.ensures (sym (word_none head_begins _ c.in_err-after_word.ensures))

pub returns : goal.returns
returns c = c.read_vertex.ensures ∙ sym (word_some head_begins _ _ c.in_ok-after_word.ensures ∙ count-last _)
