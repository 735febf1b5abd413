pub mod Situation
pub mod Table
pub mod FirewallLaws
