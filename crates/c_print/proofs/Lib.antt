pub mod Bodies
pub mod Numbered
pub mod Printing
