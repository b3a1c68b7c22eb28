-- `text_format::put_fields` meets its contract. The loop's invariant: the fields so far stand at the front. Assumes nothing.
use Rattle.text_format.specs.LineLoops.{fields-none, fields-room, fields-more}
use Rattle.text_format.proofs.put_fields.Goals as goal

pub loop-x-init : goal.loop-x-init
loop-x-init c = search fields-none

pub put_field-at-requires : goal.put_field-at-requires
put_field-at-requires c = search fields-room

pub loop-x-preserved : goal.loop-x-preserved
loop-x-preserved c = search fields-more
