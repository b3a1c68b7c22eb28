-- What a number, and a number or a share behind a reference, say of an answer.
pub mod Numbers
