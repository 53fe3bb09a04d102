pub mod Endings
pub mod Agreement
pub mod OtherContents
pub mod Cases
