pub mod Calls
pub mod DirFiles
pub mod Held
pub mod MemFiles
pub mod MemSink
pub mod Outside
pub mod StdSink
