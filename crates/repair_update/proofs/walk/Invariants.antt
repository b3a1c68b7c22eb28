-- `repair_update::walk` meets its contract. The loop's invariant: what the steps made have added and what the rest adds is what all of them add. Assumes
-- nothing.
use Rattle.std.proofs.Common.{◌-◌}
use Rattle.repair_update.specs.WalkLoop.{Walking}
use Rattle.repair_update.proofs.walk.Given as goal

abbrev pub invariant-loop : goal.invariant-loop
invariant-loop l = Walking l.scratch l.initial.coordinates l.steps l.t l.x l.coordinates (l.steps - l.counter) l.at
