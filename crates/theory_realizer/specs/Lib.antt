-- Traces of a peeling, and the rules of labels and colours.
pub mod Trace
pub mod Edges
pub mod Realizer
pub mod Units
