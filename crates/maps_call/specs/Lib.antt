-- What the maps answer in document 01's numbers, and what they leave in scratch and in the slice that they write.
pub mod CallOutcomes
