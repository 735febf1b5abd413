pub mod Initialized
pub mod Outputs
pub mod Gathered
pub mod Cipher
pub mod Signature
pub mod Ciphers
