-- Rewriting: what an auditor reads. Definitions only; the laws about them are in proofs/.
pub mod Weighing  -- how weights combine; minutes and steps
pub mod Rewriting  -- certificates, chains, the best chain
pub mod Entries  -- what an entry is, and which chain brings it about
pub mod Passes  -- tables, passes, their number
pub mod Tables  -- what can be said of a table
pub mod Steps  -- the fewest certificates of a best chain
pub mod Together  -- two files together
