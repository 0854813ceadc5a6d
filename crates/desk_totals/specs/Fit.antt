-- Numbers that have to stay below 2^128.
use Rattle.std.specs.Prelude.{ℕ, zero, suc, ◌+◌, ◌*◌, ◌^◌, Option, Some, None, nat_lt, if◌then◌else◌}

-- the number where it is below 2^128
abbrev pub fit : ℕ → Option ℕ
fit n = if nat_lt n (2 ^ 128) then Some n else None

-- a number and count times another, where it is below 2^128; None stands for a number that isn't
unfoldable pub fit_with : Option ℕ → ℕ → Option ℕ → Option ℕ
fit_with None count child = None
fit_with (Some n) count (Some child) = fit (n + count * child)
fit_with (Some n) zero None = Some n
fit_with (Some n) (suc count) None = None
