pub mod Folds
pub mod Signed
