pub mod Edges
pub mod Rows
pub mod Work
pub mod Walk
pub mod Marks
pub mod Components
pub mod Cycles
