use Rattle.std.proofs.Common.{◌≡◌, ◌≤◌, length, map, take, vec_len, vec_capacity}
use Rattle.desk_model.specs.Effect.{declared_row}
use Rattle.desk_tables.proofs.changes.declared_rows.Given as goal

abbrev pub invariant-loop-material : goal.invariant-loop-material
invariant-loop-material l = record {
  rows : l.rows.items ≡ map (declared_row l.declaration) (take l.material-index l.materials);
  count : vec_len l.rows ≡ l.material-index;
  same : l.materials ≡ l.fn.declaration.materials;
  room : length l.materials ≤ vec_capacity l.rows;
}
