pub mod Calls
pub mod Curves
pub mod Der
pub mod Elements
pub mod Jacobian
pub mod Points
pub mod PointValues
