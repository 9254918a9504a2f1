-- What only private contracts and proofs name, and the laws that join it to the definitions.
pub mod Contents
pub mod Counting
pub mod Cutting
pub mod Escapes
pub mod Faults
pub mod Fields
pub mod Gathering
pub mod Parts
pub mod Reading
pub mod Readings
pub mod Said
pub mod Views
