-- What document 01 says, a file for each of its sections, in its order. `Lists` has the few functions on lists that they share. The definitions are tried on
-- cases in proofs/.
pub mod Lists
pub mod Answers
pub mod Mesh
pub mod Labels
pub mod Forward
pub mod Backward
pub mod Directions
pub mod Repair
pub mod DrawnPoints
pub mod Refusals
pub mod Job
