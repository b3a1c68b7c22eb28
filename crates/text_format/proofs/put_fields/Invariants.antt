-- `text_format::put_fields` meets its contract. The loop's invariant: the fields so far stand at the front. Assumes nothing.
use Rattle.std.proofs.Common.{take}
use Rattle.text_model.specs.Writing.{Wrote, tabbed}
use Rattle.text_format.proofs.put_fields.Given as goal

abbrev pub invariant-loop-x : goal.invariant-loop-x
invariant-loop-x l = Wrote (tabbed (take l.x-index l.xs)) l.initial.out l.out l.at
