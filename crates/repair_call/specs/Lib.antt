-- What the repair call answers in document 01's numbers, and what it leaves.
pub mod CallOutcomes
