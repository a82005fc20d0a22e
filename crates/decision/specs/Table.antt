-- Entries by their numbers, and the table that a lent list holds: document 01, "Entries and passes".
use Rattle.std.specs.Prelude.{◌≡◌, Bool, true, false, cond, ◌&&◌, List, ℕ, ◌+◌, ◌-◌, ◌*◌, ◌/◌, ◌%◌, ◌<◌, leb, ltb, eqb, get_or, Option, Some, None}
use Rattle.wac.specs.Limits.{keys, identifiers, delegate, access, end_place, named_entries, entries}
use Rattle.wac.specs.File.{listed}
use Rattle.rewriting.specs.Passes.{Table}
use Rattle.std.specs.declared.ops.Range.{Range}

-- there is such an entry: a key reads an identifier and arrives at a key, or a mark and arrives at the end place
unfoldable pub is_entry : ℕ → ℕ → ℕ → Bool
is_entry k s a = ltb k keys && cond (ltb s identifiers) (ltb a keys) (leb s access && eqb a end_place)

-- the places where a symbol's entries arrive: the keys for an identifier, the end place for a mark
unfoldable pub arrivals_of : ℕ → Range ℕ
arrivals_of s = record { start = cond (ltb s identifiers) 0 end_place; end = cond (ltb s identifiers) keys (end_place + 1) }

-- the number of an entry: identifiers by (key × 10 + identifier) × 16 + arrival; then mark 10 by 2,560 + key; then mark 11 by 2,576 + key
unfoldable pub number : ℕ → ℕ → ℕ → ℕ
number k s a = cond (ltb s identifiers) ((k * identifiers + s) * keys + a) (named_entries + (s - delegate) * keys + k)

-- the number of an entry, and 2,592 where there is no such entry
abbrev pub entry_number : ℕ → ℕ → ℕ → ℕ
entry_number k s a = cond (is_entry k s a) (number k s a) entries

-- r is the number of an entry where there is such an entry, and none where there is none
abbrev pub NumberOf : ℕ → ℕ → ℕ → Option ℕ → Type 0
NumberOf k s a (Some n) = (is_entry k s a ≡ true) × (n ≡ number k s a) × (n < entries)
NumberOf k s a None = is_entry k s a ≡ false

-- the key of the entry with this number
unfoldable pub key_of : ℕ → ℕ
key_of e = cond (ltb e named_entries) (e / keys / identifiers) (e % keys)

-- the symbol of the entry with this number
unfoldable pub symbol_of : ℕ → ℕ
symbol_of e = cond (ltb e named_entries) (e / keys % identifiers) (delegate + (e - named_entries) / keys)

-- the place where the entry with this number arrives
unfoldable pub arrival_of : ℕ → ℕ
arrival_of e = cond (ltb e named_entries) (e % keys) end_place

-- the table that a list holds: the list's weights at the entries, none elsewhere
unfoldable pub table_of : ℕ → List ℕ → Table
table_of none l k s a = cond (is_entry k s a) (get_or l (number k s a) 0) none

-- the list that holds a table: its weights by the entries' numbers
unfoldable pub row_of : Table → List ℕ
row_of t = listed entries (λ e. t (key_of e) (symbol_of e) (arrival_of e))
