-- Forests in preorder: each vertex is followed by all whose path passes it.
pub mod Subtree
pub mod Preorder
pub mod NestedRanges
pub mod Ranges
pub mod PreorderSubtrees
