pub mod Limits
pub mod Answers
pub mod Bytes
pub mod Ranges
pub mod Record
pub mod File
pub mod View
pub mod Writer
