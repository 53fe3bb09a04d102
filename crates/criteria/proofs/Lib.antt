pub mod Folds
pub mod Matrix
pub mod Narrowed
