-- What the table of labels says.
pub mod Rows
