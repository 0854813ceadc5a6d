use Rattle.std.proofs.Common.{◌∙◌, sym}
use Rattle.desk_text.specs.Code.{code_cmp}
use Rattle.desk_model.specs.declared.rows.material.MaterialRow.{MaterialRow}
use Rattle.desk_model.proofs.Kept.{code_cmp_total}
use Rattle.desk_bridge.proofs.RowsAfter.{by_key_in_turn}
use Rattle.desk_bridge.proofs.tables_after.do_materials_rise.Goals as goal

pub returns-in-PutMaterials : goal.returns-in-PutMaterials
returns-in-PutMaterials c = λ rise.
    rw (c.in-PutMaterials.is, ← c.as_slice.ensures)
    (by_key_in_turn {R = MaterialRow} (λ row. row.code) code_cmp code_cmp_total c.as_slice.result.now (sym c.do_keys_rise.ensures ∙ rise))
