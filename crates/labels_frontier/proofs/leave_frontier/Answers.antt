-- `labels_frontier::leave_frontier` meets its contract. Assumes nothing.
use Rattle.std.proofs.Common.{rules}
use Rattle.labels_frontier.specs.FrontierLaws.{still_some}
use Rattle.labels_frontier.proofs.leave_frontier.Goals as goal

pub decrement_degree-requires-2 : goal.decrement_degree-requires-2
decrement_degree-requires-2 c = search (still_some, rules)
