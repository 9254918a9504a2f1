pub mod Flat
pub mod KeyTexts
pub mod Limits
pub mod Reached
pub mod Rows
pub mod Steps
