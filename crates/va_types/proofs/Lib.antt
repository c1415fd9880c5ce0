mod Finding
mod Skipping
mod Reading
mod FittingKinds
mod Visiting
