-- What the code of repair's loop asks and gives.
pub mod OneRaise
pub mod UpdateOnReady
pub mod Answer
pub mod LoopInvariants
pub mod AllRaises
pub mod Start
