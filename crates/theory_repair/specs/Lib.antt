-- What maps and repair keep, from what the maps of unit weights satisfy: sums, bounds, areas, and the raises of repair; and which triangles a raise can turn
-- bad. `Demand` says it all of sums and areas; proofs/ says it of repair.
pub mod Parts
pub mod Coordinates
pub mod Bounds
pub mod Areas
pub mod Raises
pub mod Additive
pub mod Ranges
pub mod Repairs
pub mod Calls
pub mod Demand
pub mod AllWalks
pub mod Regions
pub mod RegionBorders
