pub mod Input
pub mod InputLaws
pub mod StoredPositions
pub mod RoomLaws
pub mod ReadLaws
pub mod WholeNumbers
pub mod WholeNumberLaws
pub mod Cases
