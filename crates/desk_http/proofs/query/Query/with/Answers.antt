-- One pair more.
use Rattle.std.proofs.Common.{sym, ◌∙◌}
use Rattle.desk_http.proofs.QueryLemmas.{day_added, kind_added, other_added}
use Rattle.desk_http.proofs.query.Query.with.Goals as goal

pub returns-in-Kind : goal.returns-in-Kind
returns-in-Kind c = λ pairs is. kind_added c.args.self pairs c.args.name.now c.args.value.now is c.kind_with.result (sym c.key_named.ensures ∙ c.in-Kind.is) (c.kind_with.ensures _ is.kind)

pub returns-in-Day : goal.returns-in-Day
returns-in-Day c = λ pairs is. day_added c.args.self pairs c.args.name.now c.args.value.now is c.day_with.result (sym c.key_named.ensures ∙ c.in-Day.is) (c.day_with.ensures _ is.day)

pub returns-in-Other : goal.returns-in-Other
returns-in-Other c = λ pairs is. other_added c.args.self pairs c.args.name.now c.args.value.now is (sym c.key_named.ensures ∙ c.in-Other.is)
