pub mod Answers
pub mod CFiles
pub mod Commands
pub mod Faults
pub mod Requests
pub mod Status
