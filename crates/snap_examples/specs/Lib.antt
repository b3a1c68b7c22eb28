-- What the cases look at.
pub mod Seen
