-- What packmap prints, for each answer of a job.
pub mod Printed
