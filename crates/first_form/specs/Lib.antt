pub mod Code
pub mod Form
pub mod Reading
pub mod Residuals
pub mod Translation
pub mod Worked
