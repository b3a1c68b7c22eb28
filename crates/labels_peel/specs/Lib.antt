-- What the code of the labels stage needs besides the definition of its work.
pub mod LoopLaws
