pub mod Taking
pub mod Rules
pub mod Listed
