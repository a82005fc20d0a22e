-- What follows from the note rules.
pub mod Minutes  -- tables by minutes
pub mod Putting  -- the table with one entry at least at a minute
pub mod Taking  -- taking notes
pub mod Sides  -- what is always true of a site beside the other
pub mod Good  -- what is always true of two sites
pub mod Resting  -- two sites at rest agree and stay so; no note is late
pub mod Formed  -- what a note that a site writes says
pub mod Running  -- full exchanges are runs of the line
pub mod Growing  -- what a site holds only grows
pub mod Halves  -- what one half of a full exchange does
pub mod Rounds  -- the bound on full exchanges
pub mod Main  -- what is proved of two sites, in one place
