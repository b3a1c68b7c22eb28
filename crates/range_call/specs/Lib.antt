-- What the range call answers and leaves, for each way that it can end.
pub mod CallOutcomes
