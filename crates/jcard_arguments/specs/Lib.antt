pub mod Attacks
pub mod CommandLine
pub mod Grammar
pub mod JoinedWords
pub mod Numbers
pub mod Arguments
