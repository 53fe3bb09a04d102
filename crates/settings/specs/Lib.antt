pub mod Settings
pub mod Slices
pub mod Private
pub mod SettingsLaws
pub mod Limits
pub mod LimitLaws
pub mod SlicesLaws
pub mod Cases
