pub mod KindsRead
pub mod Passing
pub mod ObjectCalls
pub mod ExceptionCalls
pub mod UtilCalls
pub mod ConstructingCalls
pub mod AidCalls
pub mod OwnerPinCalls
pub mod ApduCalls
pub mod SystemCalls
pub mod AppletCalls
pub mod EventCalls
pub mod ShortsRead
pub mod ReadByRow
pub mod UtilRows
pub mod SystemRows
pub mod ExceptionRows
pub mod AidRows
pub mod OwnerPinRows
pub mod AppletRows
pub mod ApduRows
pub mod Rows
mod OfShorts
mod ArgumentExits
