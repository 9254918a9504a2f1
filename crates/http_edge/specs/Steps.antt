-- What only private contracts and proofs name: steps of loops, and values of the program's own
-- types.
pub mod Fields
pub mod Heads
pub mod Messages
pub mod Parameters
pub mod Replies
pub mod Requests
pub mod Routes
pub mod Serving
pub mod Values
