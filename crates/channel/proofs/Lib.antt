pub mod Comparisons
pub mod Additions
pub mod Cuts
pub mod Fields
pub mod Samples
pub mod Signs
pub mod Written
