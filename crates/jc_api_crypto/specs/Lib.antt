pub mod MessageDigest
pub mod InitializedMessageDigest
pub mod MessagesInPieces
pub mod Checksum
pub mod RandomData
pub mod Engines
