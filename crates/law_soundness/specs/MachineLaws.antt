-- Code leaves a machine sound.
pub mod Calls
pub mod CommandParts
pub mod Commands
pub mod Groups
pub mod LocalEffects
pub mod Natives
pub mod OwnerSwitches
pub mod Soundness
pub mod Steps
