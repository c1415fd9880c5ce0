mod Modules
mod Walked
