-- The materials of a declaration in form are entered without a fault.
use Rattle.std.proofs.Common.{sym, ◌∙◌}
use Rattle.desk_fields.proofs.Entered.{contents_good, handed_on, made_so, never_bad, number_least}
use Rattle.desk_fields.proofs.declaration.declaration_of.Goals as goal

pub start-requires : goal.start-requires
start-requires c = number_least _ c.requires

pub enter_materials-requires : goal.enter_materials-requires
enter_materials-requires c = contents_good _ c.requires

pub returns-clause-value : goal.returns-clause-value
returns-clause-value c = made_so _ c.in_ok-declaration.declaration _ c.requires (sym c.in_ok-declaration.was ∙ c.start.ensures) c.in_ok-enter_materials.ensures.ok

pub returns-in_err-enter_materials-clause-memory : goal.returns-in_err-enter_materials-clause-memory
returns-in_err-enter_materials-clause-memory c =
    λ e. never_bad _ c.in_ok-declaration.declaration c.in_err-enter_materials.field-0.0 c.requires (sym c.in_ok-declaration.was ∙ c.start.ensures) c.in_err-enter_materials.ensures.error
    (handed_on _ _ c.from_residual-in_err-enter_materials.ensures.1 e)
