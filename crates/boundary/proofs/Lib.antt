-- The laws of the codes, beside the proofs of their functions.
pub mod BitsLaws
pub mod Codes
pub mod Unique
pub mod CodesQuestions
pub mod Determined
