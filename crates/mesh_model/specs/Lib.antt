-- The work of the mesh check on the tables, as pure functions, and that it finds what rows 5 to 8 find (of rows 7 and 25 in proofs/RingWalk).
pub mod IncidenceLists
pub mod Bounds
pub mod DuplicateSides
pub mod RingWalk
pub mod Opposites
pub mod FloodFill
