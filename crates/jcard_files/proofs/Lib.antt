pub mod Effects
pub mod Stores
pub mod NewImages
pub mod ImageEnds
pub mod UsualTables
