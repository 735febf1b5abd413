pub mod Commands
pub mod Listing
pub mod RunOptions
pub mod ScriptRun
pub mod Trial
