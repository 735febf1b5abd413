-- Code spares what is outside its reach.
pub mod Groups
pub mod Natives
pub mod Runs
pub mod SparingEffects
pub mod Steps
