pub mod Radios
pub mod Runs
pub mod RadioLaws
pub mod SumLaws
pub mod OldTallyLaws
pub mod Cases
