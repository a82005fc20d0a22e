-- What the programs print: document 01, "A file to judge by" and "Two sites".
pub mod Text  -- numbers in decimal, fields, and a piece written to lent bytes
pub mod Stream  -- how many bytes were read or handed over
pub mod Question  -- the line of a question
pub mod Act  -- the lines of two sites
