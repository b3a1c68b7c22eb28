-- `text_parse::after_word` meets its contract: with no tab, with another word, and with the word. Assumes nothing.
use Rattle.text_parse.specs.LineSteps.{word_alone, word-other, word_then}
use Rattle.text_parse.proofs.after_word.Goals as goal

pub returns-in_err-first : goal.returns-in_err-first
returns-in_err-first c = rw c.from_residual.ensures (word_alone c.args.word.now c.args.line.now c.in_err-first.ensures)

pub returns-then-eq : goal.returns-then-eq
returns-then-eq c = search (word_then, c.in_ok-first.ensures)

pub returns-else-eq : goal.returns-else-eq
returns-else-eq c = search (word-other, c.in_ok-first.ensures)
