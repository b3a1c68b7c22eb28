-- What the readers of numbers and lines answer, and their steps.
pub mod Answer
pub mod NumberSteps
pub mod ByteLoops
pub mod LineSteps
