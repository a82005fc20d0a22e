-- What comes back: document 01, "What comes back", the rows 10 to 16 and 24. A call gives a value, or refuses with a number and the values that the row returns; refusals are one list of cases, of which the first that holds is given.
use Rattle.std.specs.Prelude.{Bool, cond, List, [], ◌∷◌, ℕ, get_or, Result, Ok, Err}
use Rattle.wac.specs.declared.refusal.Refusal.{Refusal}
use Rattle.wac.specs.declared.refusal.Refusal.TheVariants.{Short, NotWac, Version, TooMany, Length, Against, Room, NoSuch}

-- what comes back: a value, or a row's number and the values that the row returns
pub data Answer (A : Type 0) : Type 0 where
  gives : A → Answer A
  refuses : ℕ → List ℕ → Answer A

-- a row's case: its number, the values that it returns, and the test that it holds
pub record Case : Type 0 where
  pub number : ℕ
  pub values : List ℕ
  pub holds : Bool

-- a row that returns its number alone
abbrev pub ◌if◌ : ℕ → Bool → Case
n if b = record { number = n; values = []; holds = b }

-- a row that returns a record's number too
abbrev pub ◌of◌if◌ : ℕ → ℕ → Bool → Case
n of i if b = record { number = n; values = i ∷ []; holds = b }

infix 20 ◌if◌
infix 20 ◌of◌if◌
-- the first case that holds, else the value
unfoldable pub first_of : {A : Type 0} → List Case → A → Answer A
first_of [] a = gives a
first_of (c ∷ cases) a = let rest = first_of cases a in cond c.holds (refuses c.number c.values) rest

-- the number of each refusal
abbrev pub number_of : Refusal → ℕ
number_of Short = 10
number_of NotWac = 11
number_of Version = 12
number_of TooMany = 13
number_of Length = 14
number_of (Against i) = 15
number_of Room = 16
number_of NoSuch = 24

-- the values that each refusal returns: 15 returns a record's number, the others nothing
abbrev pub values_of : Refusal → List ℕ
values_of Short = []
values_of NotWac = []
values_of Version = []
values_of TooMany = []
values_of Length = []
values_of (Against i) = i ∷ []
values_of Room = []
values_of NoSuch = []

-- what a refusal comes back as
abbrev pub refused : {A : Type 0} → Refusal → Answer A
refused why = refuses (number_of why) (values_of why)

-- what a call comes back as: its value, or its refusal
abbrev pub comes_back : {A : Type 0} → Result A Refusal → Answer A
comes_back (Ok a) = gives a
comes_back (Err why) = refused why

-- the record's number that a refusal returns, 0 where it returns none
abbrev pub record_of : Refusal → ℕ
record_of why = get_or (values_of why) 0 0
