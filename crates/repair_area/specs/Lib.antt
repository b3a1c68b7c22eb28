-- Area numbers and raises by the vertices at a triangle's corners.
pub mod Areas
