-- Iterations of the writers of numbers and lines.
pub mod DigitLoops
pub mod LineLoops
pub mod CopiedBytes
