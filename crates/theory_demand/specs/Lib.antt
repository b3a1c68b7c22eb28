-- An accepted mesh always gets labels; the third demand; weights by eight cases.
pub mod Labels
pub mod Demand
pub mod EightCases
pub mod Ranges
