pub mod Duties
pub mod Walks
pub mod States
pub mod Passes
