-- Forward and backward undo each other, and either colour of a side gives its slope.
pub mod Drawings
pub mod Rows
pub mod Slopes
pub mod Maps
pub mod Directions
pub mod RoundTrips
