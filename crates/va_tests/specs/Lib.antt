pub mod LoneModule
