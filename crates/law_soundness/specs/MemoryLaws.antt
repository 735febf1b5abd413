-- Effects leave a memory sound.
pub mod Environment
pub mod Fit
pub mod State
