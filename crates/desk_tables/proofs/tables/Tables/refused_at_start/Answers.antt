-- The two rules that are tried are the only ones that can refuse.
use Rattle.std.proofs.Common.{◌∙◌, sym}
use Rattle.desk_tables.proofs.AtStart.{first_told, second_told}
use Rattle.desk_tables.proofs.tables.Tables.refused_at_start.Goals as goal

pub returns-in-Some : goal.returns-in-Some
returns-in-Some c = first_told c.args.declaration.now _ _ c.materials.ensures.form c.requires (sym c.in-Some.is ∙ c.unknown_in_declaration.ensures)

pub returns-in-None : goal.returns-in-None
returns-in-None c = second_told c.args.declaration.now _ _ c.materials.ensures.form c.requires (sym c.in-None.is ∙ c.unknown_in_declaration.ensures) c.too_full_in.ensures
