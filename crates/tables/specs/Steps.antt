-- What only private contracts and proofs name: the texts of statements, what they test and change,
-- and what a database holds between them.
pub mod Clauses
pub mod Climbs
pub mod DumpEntries
pub mod Inserts
pub mod Kept
pub mod Known
pub mod Next
pub mod Puts
pub mod Queries
pub mod Refusals
pub mod Selected
pub mod Slots
pub mod TagRows
pub mod Texts
