-- Two sites over a scripted line: what each act makes of them.
pub mod Mail  -- the notes that the program keeps
pub mod Acts  -- what each act makes of the two sites
