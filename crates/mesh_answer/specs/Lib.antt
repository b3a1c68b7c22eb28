-- A refusal of a call on a mesh, and the answer of such a call, in the papers' numbers.
pub mod Answer
pub mod Sizes
