-- `text_format::put_line` meets its contract. The word at the front, the numbers into the rest, and LF after them. Assumes nothing.
use Rattle.std.proofs.Common.{arith}
use Rattle.text_model.specs.Writing.{wrote_then, line_length}
use Rattle.text_format.specs.LineLoops.{wrote_line}
use Rattle.text_format.proofs.put_line.Goals as goal

pub put_bytes-a-requires : goal.put_bytes-a-requires
put_bytes-a-requires c = omega (arith, line_length c.args.word.now c.args.xs.now)

pub put_fields-requires : goal.put_fields-requires
put_fields-requires c = omega (arith, line_length c.args.word.now c.args.xs.now)

pub put_byte-requires : goal.put_byte-requires
put_byte-requires c = omega (arith, line_length c.args.word.now c.args.xs.now)

pub returns : goal.returns
returns c = search (wrote_then, wrote_line)
