-- What one raise does to the coordinates, and how words in scratch lead to it.
pub mod RemovalOrder
pub mod PackedWords
pub mod Corners
pub mod PreorderWords
pub mod Neighbours
pub mod Update
pub mod Raise
pub mod Search
pub mod Ready
pub mod LoopState
pub mod FirstRaise
