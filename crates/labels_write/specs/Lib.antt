-- The labels written from scratch.
pub mod Writing
