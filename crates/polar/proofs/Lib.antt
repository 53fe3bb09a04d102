pub mod Firsts
pub mod Loops
pub mod Parts
pub mod Passes
pub mod Sixteens
pub mod Steps
pub mod CoderLaws
