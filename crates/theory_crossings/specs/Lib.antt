-- How colour-2 walks cross the paths of vertices, and what follows for the maps.
pub mod Gaps
pub mod Colours
pub mod Walks
pub mod Paths
pub mod Tests
pub mod UnitMaps
