use Rattle.std.proofs.Common.{not, ap, sym, ◌∙◌}
use Rattle.desk_text.proofs.NameLemmas.{name_text-found, name_text-none}
use Rattle.desk_text.proofs.name.name_text.Goals as goal
use Rattle.desk_text.proofs.name.name_text.Goals.{in_default-via-in-Ok+else-not-has_control, in_default-via-in_default}

pub returns-in-Ok-clause-found : goal.returns-in-Ok-clause-found
returns-in-Ok-clause-found c =
    sym
    (name_text-found c.args.bytes.now c.in-Ok.text.now c.has_control.result c.in-Ok.ensures.cases.0 c.in-Ok.ensures.cases.1 c.has_control.ensures
    ∙ ap not c.if-not-has_control.true)

pub returns-in_default-clause-found : goal.returns-in_default-clause-found
returns-in_default-clause-found c =
    elim c.in_default.branch [
      | in_default-via-in-Ok+else-not-has_control w ↦
          sym
          (name_text-found c.args.bytes.now w.in-Ok.text.now w.has_control.result w.in-Ok.ensures.cases.0 w.in-Ok.ensures.cases.1 w.has_control.ensures
          ∙ ap not w.if-not-has_control.false)
      | in_default-via-in_default w ↦ sym (name_text-none c.args.bytes.now w.in_default.ensures.cases.0)
    ]
