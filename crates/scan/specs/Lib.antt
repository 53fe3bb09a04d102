pub mod Reading
pub mod Numbers
pub mod Lines
pub mod Answers
pub mod ScanLaws
pub mod PositionLaws
pub mod Stored
pub mod Cases
