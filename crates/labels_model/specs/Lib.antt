-- The work of the peeling on the tables, and what it keeps of the peeling that it follows.
pub mod Model
pub mod Counters
pub mod NeighbourCounts
pub mod FrontierInsert
pub mod FrontierRemove
pub mod LabelTriangle
pub mod LabelFan
pub mod Candidates
pub mod MinSearch
pub mod FrontierInvariant
pub mod Simulation
pub mod Turns
pub mod Preconditions
