pub mod Buffered
pub mod Lines
pub mod Pieces
pub mod Sending
pub mod Steps
pub mod Streams
