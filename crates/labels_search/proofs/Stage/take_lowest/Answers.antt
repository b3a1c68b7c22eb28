-- `labels_search::Stage::take_lowest` meets its contract: the words that it reads are those on the way to the lowest member. Assumes nothing.
use Rattle.labels_search.specs.Stores.{group_read, block_read}
use Rattle.labels_search.proofs.Stage.take_lowest.Goals as goal

pub without_lowest-left-requires : goal.without_lowest-left-requires
without_lowest-left-requires c = search block_read

pub summary-group_left-requires : goal.summary-group_left-requires
summary-group_left-requires c = search group_read
