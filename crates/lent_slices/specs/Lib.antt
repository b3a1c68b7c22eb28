-- Rows 1 and 2 as the code asks them, and what they leave to every call on a mesh.
pub mod Lengths
pub mod Calls
pub mod MapLengths
