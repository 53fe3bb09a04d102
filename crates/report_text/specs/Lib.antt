pub mod Report
pub mod Private
pub mod ReportLaws
pub mod Cases
