pub mod Aid
pub mod Registry
pub mod Pins
pub mod Objects
