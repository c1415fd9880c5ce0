pub mod Places
pub mod Signatures
