-- The tables of the mesh check.
pub mod Incidence
