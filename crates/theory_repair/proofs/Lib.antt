-- The loop of repair and its first raise, to each of its ends; and what the third demand says of repair, of the definitions and of the public call.
pub mod Repairs
pub mod Demand
pub mod CallDemand
