-- The laws of the certificate file, beside the proofs of its functions.
pub mod Tests
pub mod Cases
pub mod RecordLaws
pub mod FileLaws
pub mod WriterLaws
pub mod ViewLaws
pub mod RoundTrip
pub mod Appending
pub mod Unique
