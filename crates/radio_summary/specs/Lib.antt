pub mod Summary
pub mod OrderLaws
pub mod InsertingLaws
pub mod SummaryLaws
pub mod SortedLaws
pub mod Cases
