pub mod Marks
pub mod Criteria
pub mod Memory
pub mod Private
pub mod CriteriaLaws
pub mod MemoryLaws
pub mod SliceLaws
pub mod Cases
