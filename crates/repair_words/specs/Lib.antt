-- What packing the words asks and gives.
pub mod LoopInvariants
