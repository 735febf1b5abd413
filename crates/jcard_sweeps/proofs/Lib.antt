pub mod WholeRuns
pub mod RunFaults
pub mod CommandTexts
pub mod Lines
pub mod NamedParts
pub mod PartJoins
pub mod PowerUpFaults
