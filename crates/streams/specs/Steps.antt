-- What only private contracts and proofs name: steps of loops.
pub mod Cutting
