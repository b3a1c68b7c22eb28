-- `text_format::put_decimal` meets its contract. By the sign and the absolute value. Assumes nothing.
use Rattle.text_format.specs.DigitLoops.{decimal_room, decimal_wrote}
use Rattle.text_format.proofs.put_decimal.Goals as goal

pub put_signed-requires : goal.put_signed-requires
put_signed-requires c = search decimal_room

pub returns : goal.returns
returns c = search decimal_wrote
