pub mod Cell
pub mod Owners
pub mod State
