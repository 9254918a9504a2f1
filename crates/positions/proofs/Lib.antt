pub mod Overlaps
