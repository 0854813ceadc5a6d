-- How faults of the outside are counted.
use Rattle.std.specs.Prelude.{◌≡◌, ℕ, ◌+◌, ◌-◌, ◌^◌, ◌≤◌, min}

-- the last value of a count, which is kept in 64 bits and stands still there
abbrev pub last_count : ℕ
last_count = 2 ^ 64 - 1

-- a count after one more
abbrev pub one_more : ℕ → ℕ
one_more n = min (n + 1) last_count

-- at least one fault was counted: the count rose, or it stood at its last value before
abbrev pub Rose : ℕ → ℕ → Type 0
Rose old new = one_more old ≤ new

-- A call counts faults so: their count never falls, it stays as it is where the call hasn't failed, and it rises where it has.
pub record CountsFaults (fails : Type 0) (old new : ℕ) : Type 0 where
  pub never_falls : old ≤ new
  pub steady : (fails → ⊥) → new ≡ old
  pub rises : fails → Rose old new
