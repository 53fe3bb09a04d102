pub mod Promises
pub mod TextPromises
