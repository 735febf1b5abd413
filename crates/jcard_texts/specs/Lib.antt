pub mod Escapes
pub mod Seconds
pub mod Texts
