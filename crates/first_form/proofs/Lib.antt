pub mod Named
pub mod Params
pub mod Shapes
pub mod Flows
pub mod Lowering
