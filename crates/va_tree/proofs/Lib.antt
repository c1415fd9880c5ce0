pub mod Ascending
pub mod DeepNodes
pub mod OwnNames
