use Rattle.std.proofs.Common.{◌≡◌, ◌+◌, min, true, take}
use Rattle.std.specs.Char.{is_ascii_digit}
use Rattle.std.specs.List.{list_all}
use Rattle.std.specs.Str.Parse.{digits_value}
use Rattle.desk_http.specs.Limits.{body_limit}
use Rattle.desk_http.proofs.lines.read_length.Given as goal

-- the digits so far, and their number up to one past the bound
abbrev pub invariant-loop-digit : goal.invariant-loop-digit
invariant-loop-digit l = record {
  digits : list_all is_ascii_digit (take l.digit-index l.value) ≡ true;
  number : l.length ≡ min (digits_value 10 (take l.digit-index l.value)) (body_limit + 1);
}
