-- What only private contracts and proofs name: steps of loops, and values of the program's own
-- types.
pub mod Chains
pub mod Ids
pub mod Judging
pub mod Links
pub mod Spans
pub mod Tables
