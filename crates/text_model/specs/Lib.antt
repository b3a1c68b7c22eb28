-- Laws of the job text. Assumes nothing.
pub mod Numbers
pub mod Scan
pub mod Positions
pub mod Layouts
pub mod Reading
pub mod Sizes
pub mod Writing
