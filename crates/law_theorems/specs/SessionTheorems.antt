-- The main theorems, of sessions of a card.
pub mod Commands
pub mod Cuts
pub mod Eventful
pub mod Fuse
pub mod Images
pub mod Isolation
pub mod References
pub mod Refusals
pub mod TakenBack
pub mod Tears
pub mod TryChanges
pub mod WholeCopies
pub mod Witness
