mod PartPlaces
pub mod KeyClasses
pub mod KeyCalls
