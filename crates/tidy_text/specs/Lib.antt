pub mod Tidy
pub mod TidyLaws
