-- What the code that moves subtrees asks and gives.
pub mod Signed
pub mod Increase
pub mod RangeLoop
pub mod WalkLoop
