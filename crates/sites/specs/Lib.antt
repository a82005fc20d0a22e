-- Two sites that work out one decision by notes: document 01, "Two sites" and the rows 20 to 28 of "What comes back".
pub mod Notes  -- what a note's 12 bytes say
pub mod Site  -- what each function makes of a site
pub mod Line  -- two sites on a line that may lose, repeat, delay and reorder notes
pub mod Exchange  -- full exchanges
