pub mod Machine
pub mod Run
pub mod Text
pub mod Worked
