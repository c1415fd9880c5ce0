pub mod Beginnings
pub mod FirstBytes
pub mod Fronts
pub mod PieceKinds
pub mod Scans
pub mod TextFronts
pub mod TokenLists
