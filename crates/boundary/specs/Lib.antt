pub mod Coded
pub mod Questions
