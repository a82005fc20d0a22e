-- Certificates of two files: those of one among those of another, and both files together (document 01, "Two sites").
use Rattle.std.specs.Prelude.{◌≡◌, true, cond, ℕ, ◌+◌, ◌-◌, ◌<◌, ltb}
use Rattle.rewriting.specs.Rewriting.{Rules}

-- Certificate number i of R has a copy among those of T: usable, with the same rule and the same weight.
pub record Copy (R T : Rules) (i : ℕ) : Type 0 where
  pub number : ℕ
  pub there : number < T.count
  pub usable : T.live number ≡ true
  pub same_rule : T.rule number ≡ R.rule i
  pub same_weight : T.weight number ≡ R.weight i

-- Every usable certificate of R has a copy among those of T.
abbrev pub Among : Rules → Rules → Type 0
Among R T = (i : ℕ) → i < R.count → R.live i ≡ true → Copy R T i

-- x below n, and y from there on.
unfoldable pub joined {ℓ} : {A : Type ℓ} → ℕ → (ℕ → A) → (ℕ → A) → ℕ → A
joined n x y i = cond (ltb i n) (x i) (y (i - n))

-- The certificates of both files, those of the first file first.
abbrev pub together : Rules → Rules → Rules
together R T = record {
  count = R.count + T.count;
  rule = joined R.count R.rule T.rule;
  live = joined R.count R.live T.live;
  weight = joined R.count R.weight T.weight;
}
