-- What the answer says in document 01's words, what a share comes to, the loops over shares and points, and what the call gives for each way that it can end.
pub mod Answer
pub mod ShareCases
pub mod LoopLaws
pub mod CallOutcomes
