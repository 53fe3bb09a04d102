pub mod Decoder
pub mod Run
pub mod EndingLaws
pub mod OutputLaws
pub mod RunLaws
pub mod ResultLaws
pub mod SameDecoding
pub mod SameDecodingLaws
