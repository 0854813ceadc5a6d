-- The word of each row is literal, so that its route is read as it stands.
use Rattle.desk_http.proofs.RouteLemmas.{read_as_is}
use Rattle.desk_http.proofs.routes.add.Goals as goal
use Rattle.desk_http.proofs.routes.add.Goals.{in-Ok, in-Err}

pub returns : goal.returns
returns c = elim c.match-insert.branch [
  | in-Ok w ↦ rw w.result-is (rw (c.word.ensures, read_as_is c.args.endpoint) at w.in-Ok.ensures).1
  | in-Err w ↦ rw w.result-is tt
]
