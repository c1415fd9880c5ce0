pub mod Printed
pub mod Stands
