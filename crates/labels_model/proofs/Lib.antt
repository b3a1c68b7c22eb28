-- The work on the tables does what the peeling does, and finds what the code asks of them: the theorems on the definitions of specs/.
pub mod LabelTriangle
pub mod LabelFan
pub mod Candidates
pub mod MinSearch
pub mod Choice
pub mod Step
pub mod Simulation
pub mod Init
pub mod Result
pub mod Preconditions
