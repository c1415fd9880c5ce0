pub mod Endings
pub mod Lines
pub mod Related
pub mod Outside
pub mod LawsProved
pub mod StoresNothing
