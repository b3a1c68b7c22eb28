-- How the preorders are made in scratch.
pub mod Model
pub mod KeptWords
pub mod LoopInvariants
pub mod Passing
pub mod PreorderBuilt
pub mod RootedForest
pub mod ForestOfMesh
