-- The tables of the labels stage, and what they hold once the corners are labelled.
pub mod Peeling
pub mod LabelledTables
