pub mod Clearing
mod Numbers
pub mod Zeros
