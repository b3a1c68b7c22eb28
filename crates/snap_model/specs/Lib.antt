-- The theory of drawn points: `Call` the call in parts, `Scales` the scale it works with, `Nearest` the whole number nearest to a fraction, `Bits` the f64
-- that a bit pattern stands for, `Share` the snapping of a share, with the theorem that its whole number is the only right one, `Points` points in turn,
-- `Looking` which share is refused.
pub mod Call
pub mod Scales
pub mod Nearest
pub mod Bits
pub mod Share
pub mod Points
pub mod Looking
