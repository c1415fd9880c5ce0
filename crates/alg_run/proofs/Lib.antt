pub mod Euclid
pub mod Halves
pub mod Remainders
