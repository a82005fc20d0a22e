-- The note rules of two sites on tables: document 01, "Two sites".
pub mod Notes  -- what a site keeps, and what opening, working and taking a note make of it
pub mod Line  -- two sites on a line that may lose, repeat, delay and reorder notes
pub mod Exchange  -- full exchanges
