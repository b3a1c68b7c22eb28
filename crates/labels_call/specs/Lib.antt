-- What the labels call answers in document 01's numbers, and what it leaves in scratch and in the labels.
pub mod Labelling
pub mod CallOutcomes
