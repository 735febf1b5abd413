mod Released
pub mod CipherClasses
pub mod SignatureClasses
pub mod CipherCalls
mod Deciphered
mod OaepMessages
