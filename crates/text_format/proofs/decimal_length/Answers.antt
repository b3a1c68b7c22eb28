-- `text_format::decimal_length` meets its contract. By the sign and the absolute value. Assumes nothing.
use Rattle.text_format.specs.DigitLoops.{decimal_counted}
use Rattle.text_format.proofs.decimal_length.Goals as goal

pub returns : goal.returns
returns c = search decimal_counted
