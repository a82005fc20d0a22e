-- The file to judge by, and the cases P1 to P10: what an auditor reads. Definitions only; the one theorem about them, `judged`, is in
-- proofs/.
pub mod File  -- the file, as bytes and as the table of its certificates
pub mod Right  -- a case, and what it is for its line to be right
pub mod Cases  -- P1 to P10
