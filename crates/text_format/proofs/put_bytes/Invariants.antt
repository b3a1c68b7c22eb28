-- `text_format::put_bytes` meets its contract. The loop's invariant, `Copied`: the bytes so far are copied, and the others are as they were. Assumes nothing.
use Rattle.text_format.specs.CopiedBytes.{Copied}
use Rattle.text_format.proofs.put_bytes.Given as goal

abbrev pub invariant-loop-i : goal.invariant-loop-i
invariant-loop-i l = Copied l.word l.initial.out l.out l.i
