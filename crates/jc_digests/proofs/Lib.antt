pub mod Pieces
pub mod Remainders
pub mod StandardFacts
pub mod Examples
