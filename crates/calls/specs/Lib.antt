pub mod Call
pub mod Databases
pub mod Replay
pub mod Report
pub mod Serve
pub mod Steps
