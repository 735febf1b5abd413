pub mod Maps
pub mod Mnemonics
pub mod NamedText
pub mod Explanation
