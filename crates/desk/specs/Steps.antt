-- What only private contracts and proofs name: steps of loops, and values of the program's own
-- types.
pub mod Clauses
pub mod Indexes
pub mod Listed
pub mod Plain
pub mod RowHovers
pub mod RowPlaces
pub mod Rows
pub mod Selected
