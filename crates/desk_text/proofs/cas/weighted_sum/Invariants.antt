use Rattle.std.proofs.Common.{◌≡◌, ◌+◌, length, drop}
use Rattle.desk_text.specs.Cas.{weighted_sum, digits_of}
use Rattle.desk_text.proofs.cas.weighted_sum.Given as goal

-- what is left has the places up to `place`, and makes up the sum
abbrev pub invariant-loop-byte : goal.invariant-loop-byte
invariant-loop-byte l = record {
  place : l.place ≡ length (digits_of (drop l.byte-index l.bytes));
  sum : l.sum + weighted_sum (digits_of (drop l.byte-index l.bytes)) ≡ weighted_sum (digits_of l.bytes);
}
