pub mod Verdict
pub mod Front
pub mod Alike
pub mod Flips
pub mod Outcome
pub mod OddFronts
pub mod Runs
pub mod Independence
