-- What is no text is no word of the table.
use Rattle.desk_http.proofs.RouteLemmas.{none_for_bytes}
use Rattle.desk_http.proofs.routes.Routes.find.Goals as goal

pub returns-in-Err : goal.returns-in-Err
returns-in-Err c = none_for_bytes c.args.word.now c.in-Err.ensures.cases.0
