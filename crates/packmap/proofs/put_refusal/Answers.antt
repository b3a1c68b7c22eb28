-- `packmap::put_refusal` meets its contract. The line by its numbers. Assumes nothing.
use Rattle.packmap.specs.Printed.{refusal_room, refusal_wrote, refusal_few}
use Rattle.packmap.proofs.put_refusal.Goals as goal

pub put_line-requires : goal.put_line-requires
put_line-requires c = search refusal_room

pub returns : goal.returns
returns c = search (refusal_wrote, refusal_few)
