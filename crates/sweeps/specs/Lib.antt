pub mod Workspace
pub mod Iteration
pub mod WorkspaceLaws
pub mod Private
pub mod IterationLaws
pub mod RestLaws
