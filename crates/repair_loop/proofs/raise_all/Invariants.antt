-- `repair_loop::raise_all` meets its contract. The loop's invariant: the definition's loop goes on from here. The measure is the definition's fuel, which
-- never runs out. Assumes nothing.
use Rattle.std.proofs.Common.{◌*◌, ◌-◌, ◌<◌, unwrap_or, IfSome}
use Rattle.repair_loop.specs.LoopInvariants.{Loops}
use Rattle.repair_loop.proofs.raise_all.Given as goal

abbrev pub invariant-loop-next : goal.invariant-loop-next
invariant-loop-next l =
    record {
      found : Loops l.n l.scratch l.initial.weights l.initial.coordinates l.sum l.raised l.weights l.coordinates l.total l.count l.full
          (unwrap_or l.next (2 * l.n - 4));
      inside : IfSome l.next (λ t. t < 2 * l.n - 4);
    }

abbrev pub decreases-loop-next : goal.decreases-loop-next
decreases-loop-next l = 2 * l.n - 4 - l.count
