pub mod Position
pub mod Span
