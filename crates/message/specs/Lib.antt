pub mod Rule
pub mod Message
pub mod MessageLaws
pub mod ShiftLaws
pub mod Cases
