-- The four tables in the lent scratch, and four numbers in a word of them.
pub mod Tables
pub mod Fields
