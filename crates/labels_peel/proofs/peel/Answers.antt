-- `labels_peel::peel` meets its contract. Assumes nothing.
use Rattle.labels_peel.specs.LoopLaws.{begins}
use Rattle.labels_peel.proofs.peel.Goals as goal

pub remove_all-requires : goal.remove_all-requires
remove_all-requires c =
    rw (c.init.ensures.same.n, c.new-stage.ensures.n)
    (begins c.requires.1 c.requires.0.most (rw (c.new-stage.ensures.n, c.new-stage.ensures.words) at c.init.ensures.now))
