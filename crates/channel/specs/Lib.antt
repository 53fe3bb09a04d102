pub mod Front
pub mod Ranges
pub mod Private
pub mod FlippedSamples
pub mod FrontLaws
pub mod Cases
