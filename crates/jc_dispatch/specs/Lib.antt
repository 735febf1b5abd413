pub mod AppletResult
pub mod Buffer
pub mod Phase
pub mod ExtendedLength
pub mod Select
pub mod Install
pub mod Create
pub mod AdHocCode
