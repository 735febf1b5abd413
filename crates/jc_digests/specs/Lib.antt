pub mod Pieces
pub mod Checksums
pub mod Kept
