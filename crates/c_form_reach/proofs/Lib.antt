pub mod Least
pub mod Loading
pub mod Placing
pub mod Reaching
pub mod Setting
