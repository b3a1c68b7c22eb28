-- General mathematics, with no word of meshes.
pub mod Chain
pub mod Lists
pub mod Counting
pub mod Orbits
pub mod Every
pub mod Integers
pub mod Ring
pub mod Sums
pub mod Multiples
pub mod Forest
pub mod Edges
pub mod Positions
pub mod Mapped
pub mod Tabulated
pub mod Covers
