-- The topology of an accepted mesh: a count of sides, and chords that never cross.
pub mod Euler
pub mod Crossing
pub mod Chords
