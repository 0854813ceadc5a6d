use Rattle.std.proofs.Common.{◌≡◌, true, sym, subst}
use Rattle.desk_model.specs.contracts.declaration.Declaration.{the_view}
use Rattle.desk_model.specs.Declaring.{empty_material}
use Rattle.desk_model.proofs.Declaring.{added_error, added_ok, empty_content, is_good, parts}
use Rattle.desk_model.proofs.InForm.{declared, entered_in_form}
use Rattle.desk_model.proofs.declaration.Declaration.add_material.Goals as goal

pub enter-requires : goal.enter-requires
enter-requires c = (parts (the_view c.self.inside) (declared (the_view c.self.inside) c.self.invariant)).by_key

pub invariant_of-self : goal.invariant_of-self
invariant_of-self c =
    let good : is_good (empty_material c.args.code c.args.name c.args.mass) ≡ true = empty_content c.args.mass c.requires.least c.requires.greatest in
    entered_in_form (the_view c.self.inside) c.empty-material.result c.enter.new.rows.items c.enter.result c.self.invariant
    (subst (λ m. is_good m ≡ true) (sym c.empty-material.ensures.value) good)
    c.empty-material.ensures.form
    c.enter.ensures.ok c.enter.ensures.err

pub returns-clause-ok : goal.returns-clause-ok
returns-clause-ok c =
    added_ok (the_view c.self.inside) c.args.self.now c.self.view_is c.empty-material.result _ c.empty-material.ensures.value
    c.enter.new.rows.items c.enter.result c.enter.ensures.ok

pub returns-clause-error : goal.returns-clause-error
returns-clause-error c =
    added_error (the_view c.self.inside) c.args.self.now c.self.view_is c.empty-material.result _ c.empty-material.ensures.value
    c.enter.result c.enter.ensures.error
