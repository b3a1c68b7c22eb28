-- What the reader of a job text answers, and its steps.
pub mod Answer
pub mod LoopInvariants
pub mod Parts
