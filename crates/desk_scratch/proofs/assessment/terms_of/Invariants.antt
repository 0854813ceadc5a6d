-- The terms of the first rows.
use Rattle.std.proofs.Common.{◌≡◌, ◌≤◌, length, map, take, vec_len, vec_capacity}
use Rattle.desk_scratch.proofs.assessment.terms_of.Given as goal

abbrev pub invariant-loop-row : goal.invariant-loop-row
invariant-loop-row l = record {
  terms : l.terms.items ≡ map (λ row. row.terms) (take l.row-index l.rows);
  count : vec_len l.terms ≡ l.row-index;
  room : length l.rows ≤ vec_capacity l.terms;
}
