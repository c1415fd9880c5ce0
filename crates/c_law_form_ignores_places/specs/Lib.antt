pub mod Forget
pub mod Laws
pub mod Worked
