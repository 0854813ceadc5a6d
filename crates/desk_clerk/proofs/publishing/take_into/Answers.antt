-- The edit is kept exactly where it adds itself to the list.
use Rattle.std.proofs.Common.{ap, sym, ◌∙◌}
use Rattle.desk_clerk.specs.Clerk.{tables_of}
use Rattle.desk_clerk.specs.Published.{waiting_edit}
use Rattle.desk_clerk.proofs.ToPublish.{kept_so}
use Rattle.desk_clerk.proofs.publishing.take_into.Goals as goal

pub returns-in-Ok-clause-ok : goal.returns-in-Ok-clause-ok
returns-in-Ok-clause-ok g c = (
  ap waiting_edit c.replace.ensures.after
      ∙ kept_so (tables_of c.args.desk.now) (tables_of c.accept.new.self) c.args.edit c.number-before.result c.in-Ok.accepted.whole c.kept_if_new.result
      c.in_form.ensures c.number-before.ensures c.in-Ok.ensures.list c.in-Ok.ensures.ok c.kept_if_new.ensures.same c.kept_if_new.ensures.new,
  c.in-Ok.ensures.ok,
)
