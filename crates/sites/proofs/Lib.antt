-- The laws of the sites, beside the proofs of their functions.
pub mod SiteLaws  -- laws of the sites' functions
pub mod Unique  -- two results that meet a contract are the same
pub mod NoteLaws  -- a note's bytes say the note
pub mod Ledgers  -- what the functions make of a site is what the note rules make of its tables
pub mod SendingLaws  -- the notes that a site writes
pub mod Following  -- two sites on the line do what the note rules say of their tables
pub mod Running  -- full exchanges are runs, and a turn once had stays had
pub mod Exchanging  -- full exchanges of two sites are full exchanges of the rules
pub mod Turning  -- one half note by note, as a program runs it
pub mod Runnable  -- a full exchange can always be run
pub mod Agreement  -- what is proved of two sites: demand 3
pub mod Blank  -- the site of a refused opening
