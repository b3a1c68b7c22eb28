-- What the writer of a listing answers, and its steps.
pub mod Answer
pub mod LoopInvariants
