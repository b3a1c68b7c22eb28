-- What each step of the forward map reads and leaves, in the shape of the code, and what its calls ask.
pub mod LoopLaws
