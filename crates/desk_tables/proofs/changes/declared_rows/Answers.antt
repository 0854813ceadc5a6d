use Rattle.std.proofs.Common.{sym, subst}
use Rattle.desk_text.specs.Code.{code_cmp}
use Rattle.desk_rows.specs.Rows.{IsByKey}
use Rattle.desk_tables.proofs.DeclaredRows.{all_rows_by_key}
use Rattle.desk_tables.proofs.changes.declared_rows.Goals as goal

pub returns-clause-by_key : goal.returns-clause-by_key
returns-clause-by_key c =
    subst (IsByKey (λ row. row.code) code_cmp) (sym c.new.ensures)
    (all_rows_by_key c.args.declaration.now c.materials-materials.ensures.in_range c.materials-materials.result.now c.loop-material.rows.items c.loop-material.material-index c.loop-material.invariant.rows c.loop-material.invariant.same c.loop-material-test.false)
