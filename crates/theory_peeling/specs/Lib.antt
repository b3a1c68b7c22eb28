-- The peeling of an accepted mesh, in any order of removals and then in the order of the definition.
pub mod Inside
pub mod RotationLists
pub mod Fan
pub mod RemoveStep
pub mod Peel
pub mod MiddleVertices
pub mod Colours
pub mod Vertices
pub mod Run
pub mod NeverStuck
pub mod Realized
pub mod Labelled
