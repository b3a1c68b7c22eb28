-- What the mesh check answers, and what it leaves in scratch.
pub mod Stages
pub mod CallOutcomes
