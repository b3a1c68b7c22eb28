-- `labels_frontier::set_removed` meets its contract. Assumes nothing.
use Rattle.labels_frontier.specs.FrontierLaws.{removed_is}
use Rattle.labels_frontier.proofs.set_removed.Goals as goal

pub returns : goal.returns
returns c = search removed_is
