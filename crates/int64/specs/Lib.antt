-- Laws of whole numbers in 64 bits.
pub mod Whole
