pub mod Calls
pub mod Connections
pub mod Databases
pub mod Judgings
pub mod Numbers
pub mod Waits
