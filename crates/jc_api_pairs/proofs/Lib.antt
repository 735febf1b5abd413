pub mod KeyAgreementClasses
pub mod KeyPairClasses
pub mod PairPasses
pub mod PairPlaces
pub mod PairCalls
pub mod PairForms
pub mod PairingCalls
