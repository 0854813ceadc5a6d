use Rattle.std.proofs.Common.{◌≡◌, find, drop}
use Rattle.std.specs.Prelude.{nat_le, ◌^◌}
use Rattle.desk_findings.specs.Mass.{mass}
use Rattle.desk_tables.proofs.table_lists.TableLists.too_heavy_part.Given as goal

abbrev pub invariant-loop-part : goal.invariant-loop-part
invariant-loop-part l = record {
  place : l.place ≡ l.part-index;
  parts : l.part-items ≡ l.fn.self.parts;
  rest : find (λ part. nat_le (2 ^ 128) (mass l.self part.code)) (drop l.part-index l.part-items) ≡ find (λ part. nat_le (2 ^ 128) (mass l.self part.code)) l.part-items;
}
