pub mod RadioList
pub mod Private
pub mod RadioListLaws
pub mod Cases
