pub mod CurveParts
pub mod KeyAgreement
pub mod KeyPair
pub mod Pairs
