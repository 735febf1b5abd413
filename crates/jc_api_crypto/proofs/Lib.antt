pub mod Blocks
pub mod HashValues
pub mod StatesRead
pub mod Whole
pub mod HmacWhole
mod Counts
mod FewShorts
pub mod Classes
pub mod EngineCalls
