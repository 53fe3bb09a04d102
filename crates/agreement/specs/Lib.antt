pub mod SameDecoding
pub mod LeastSizes
pub mod OtherContentsCalls
