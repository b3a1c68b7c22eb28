-- What the code of rows 9 to 12 rests on.
pub mod Any
pub mod Limits
