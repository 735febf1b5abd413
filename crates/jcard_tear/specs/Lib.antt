pub mod Recoveries
pub mod Sweep
pub mod Faults
pub mod Parts
pub mod KeptCard
pub mod TargetCuts
pub mod ImageSweep
