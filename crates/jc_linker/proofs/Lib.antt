pub mod Walks
pub mod Ontos
pub mod Behind
pub mod Extending
pub mod Inheriting
pub mod PlatformLists
pub mod AtOnce
