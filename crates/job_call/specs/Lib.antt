-- A job from its text to its listing: its outcome by parts, and the laws of it.
pub mod Model
pub mod Answer
pub mod Outcomes
