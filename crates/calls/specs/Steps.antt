-- What only private contracts and proofs name: steps of loops, and values of the program's own
-- types.
pub mod Call
pub mod Judging
