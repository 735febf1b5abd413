pub mod Arrays
pub mod HeapBounds
pub mod Holding
pub mod ItemWords
pub mod PlaceSteps
pub mod Sizes
pub mod Standing
mod Opened
mod Walked
