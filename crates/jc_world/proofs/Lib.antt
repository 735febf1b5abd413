pub mod Unasked
pub mod Free
pub mod Below
pub mod Services
