pub mod Reprint
pub mod Worked
pub mod Reread
