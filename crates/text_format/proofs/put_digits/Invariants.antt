-- `text_format::put_digits` meets its contract. The loop's invariant, `Filled`: the digits from place k on are written, and those before it stand for the
-- number that is left. Assumes nothing.
use Rattle.text_format.specs.DigitLoops.{Filled}
use Rattle.text_format.proofs.put_digits.Given as goal

abbrev pub invariant-loop-k : goal.invariant-loop-k
invariant-loop-k l = Filled l.n l.count l.initial.out l.out l.m l.k
