-- What the functions of row 8 ask and give.
pub mod FloodFillLoops
