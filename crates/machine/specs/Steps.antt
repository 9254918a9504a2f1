-- What only private contracts and proofs name: the lines of an upload, and values of the program's
-- own types.
pub mod Changes
pub mod Covers
pub mod Names
pub mod Places
pub mod Uploads
