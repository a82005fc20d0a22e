-- Rewriting: the laws, grouped by what they are about. The list of theorems is in docs/.

-- What the others rest on.
pub mod Tests  -- computed tests as facts
pub mod Numbers  -- sums, searches, steps that come to an end
pub mod Order  -- the order of a weighing
-- Chains.
pub mod Runs  -- certificates applied in turn
pub mod Words  -- where a certificate's right side leads
pub mod Trees  -- chains are reading trees, and what they bring about is an entry
pub mod Answers  -- one answer only, and what it decides
-- Tables and passes.
pub mod Passing  -- one pass: where its weights come from, keeps, takes, grows
pub mod Held  -- tables as lent places hold them; a table that is still stays so
pub mod Copies  -- the same certificate in another file
pub mod Sound  -- what a table says, some chain brings about
pub mod Complete  -- what chains bring about, a closed table says
pub mod LastTable  -- the last table: only one, the answer everywhere, an origin for every weight
-- The number of passes.
pub mod Counting  -- sums over entries
pub mod Settling  -- passes over any table come to an end
pub mod Progress  -- each pass brings one more entry to its last weight
pub mod Bound  -- the bound on passes and on exchanges
-- Steps.
pub mod Steps  -- the fewest certificates of a best chain
pub mod Settled  -- what a settled table says, in weights and in steps
pub mod WriteOut  -- a chain from the table of steps
-- Files.
pub mod Together  -- two files together
pub mod More  -- more certificates, never less
