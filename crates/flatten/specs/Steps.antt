-- What only private contracts and proofs name.
pub mod Borne
pub mod Chains
pub mod Documents
pub mod Found
pub mod Items
pub mod Kinds
pub mod Marks
pub mod Numbers
pub mod Parents
pub mod Places
pub mod Ranges
pub mod Tables
