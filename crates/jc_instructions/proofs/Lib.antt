pub mod Behind
pub mod Kept
pub mod Pairs
mod Few
pub mod Handlers
pub mod Implementing
mod Same
pub mod Receivers
mod TopCells
pub mod MethodSelection
