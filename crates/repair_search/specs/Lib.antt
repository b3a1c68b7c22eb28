-- How the code's searches meet the tests of a raise.
pub mod SearchLoops
