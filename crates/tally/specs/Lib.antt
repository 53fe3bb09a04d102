pub mod Tally
pub mod Runs
pub mod Private
pub mod TallyLaws
pub mod OldTallies
pub mod OldTallyLaws
pub mod Cases
