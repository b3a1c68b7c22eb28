-- The backward map as the code reads it off the words of the darts, that it is the definition's, and weights kept in scratch.
pub mod Weights
pub mod Buffer
