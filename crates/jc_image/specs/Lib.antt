pub mod Laying
pub mod Beginning
pub mod Steps
pub mod Opening
pub mod Listing
