-- Which names stand in the query.
use Rattle.desk_http.proofs.QueryLemmas.{only_named}
use Rattle.desk_http.proofs.query.Query.has_only.Goals as goal

pub returns : goal.returns
returns c = λ pairs is. rw (c.is_absent.ensures, c.is_absent-2.ensures) (only_named c.args.self.now pairs c.args.may_have_kind c.args.may_have_day is)
