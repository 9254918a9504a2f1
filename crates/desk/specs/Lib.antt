pub mod Indexes
pub mod Steps
pub mod TableStates
