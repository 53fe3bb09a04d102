pub mod Writer
pub mod RoomLaws
pub mod ReadBackLaws
pub mod WriterLaws
pub mod Cases
