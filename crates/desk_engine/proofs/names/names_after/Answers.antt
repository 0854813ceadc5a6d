use Rattle.std.proofs.Common.{◌∙◌, sym}
use Rattle.desk_engine.proofs.NamesGrow.{grow_ok, stay}
use Rattle.desk_engine.proofs.names.names_after.Goals as goal

pub returns-in-Some : goal.returns-in-Some
returns-in-Some c = λ t s passes few. grow_ok t s c.args.edit.now _ (sym c.new_candidate.ensures ∙ c.in-Some.is) passes c.args.names.now few c.names_with.result c.names_with.ensures

pub returns-in-None : goal.returns-in-None
returns-in-None c = λ t s passes few. stay t c.args.edit.now (sym c.new_candidate.ensures ∙ c.in-None.is) c.args.names.now few
