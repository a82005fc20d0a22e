-- The proof of the cases.

pub mod Lists  -- tables as short lists, and readings through them
pub mod Rounds  -- passes over such lists are the passes of the definition
pub mod Judging  -- a case that passes its test is right; P1 to P10 are
pub mod Unique  -- only one line is right
pub mod Asking  -- what the question answers is what the lines say
