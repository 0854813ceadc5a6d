-- Bits of nodes: each bit stands for one node that is sought, and goes up the lines.
use Rattle.std.specs.Prelude.{ℕ, Bool, List, ◌==◌, bit_or, count_by}
use Rattle.std.specs.Int.{bit_at}
use Rattle.desk_model.specs.Lists.{Lists}
use Rattle.desk_findings.specs.Reaches.{reaches}

-- the bit of this number is set
abbrev pub has_bit : ℕ → ℕ → Bool
has_bit bit bits = bit_at bits bit == 1

-- a line adds to a node's bits those of its child, whatever the count
abbrev pub with_bits : ℕ → ℕ → ℕ → ℕ
with_bits bits count child = bit_or bits child

-- how many parts reach a code
abbrev pub reach_count : Lists → List ℕ → ℕ
reach_count t code = count_by (λ part. reaches t part.code code) t.parts
