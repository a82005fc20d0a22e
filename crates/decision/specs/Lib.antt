pub mod Usable
pub mod Lens
pub mod Table
pub mod Engine
pub mod Writing
pub mod Question
