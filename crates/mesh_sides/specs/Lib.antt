-- What the functions of rows 3 to 6 ask of the lent slices, and what is known at each iteration of their loops.
pub mod HighestVertex
pub mod RepeatedVertex
pub mod Room
pub mod LoopInvariants
pub mod MatchedSides
