pub mod Loops
pub mod Stepping
pub mod Running
pub mod Deciding
