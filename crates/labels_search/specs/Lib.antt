-- Sets of vertices: the bits of one word, words in levels, sets of three levels, where the tables have them, and what a call leaves of scratch.
pub mod Bits
pub mod Levels
pub mod Sets
pub mod Stores
pub mod Staged
