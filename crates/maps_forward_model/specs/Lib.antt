-- The forward map along the trace of a peeling.
pub mod Removals
pub mod Model
pub mod RemovalStep
pub mod Accumulate
pub mod Propagate
pub mod Thirds
pub mod Result
