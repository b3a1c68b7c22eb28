-- `text_format::line_length` meets its contract. The word, the numbers and LF. Assumes nothing.
use Rattle.std.proofs.Common.{rules}
use Rattle.text_format.specs.LineLoops.{counts_line}
use Rattle.text_format.proofs.line_length.Goals as goal

pub returns : goal.returns
returns c = search (counts_line, rules)
