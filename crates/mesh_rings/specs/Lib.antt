-- What is known at each iteration of the loops of 7 and 25.
pub mod RingLoops
