-- What the router finds is the row of the table.
use Rattle.std.proofs.Common.{◌∙◌, sym, ap}
use Rattle.matchit.specs.Seek.{first}
use Rattle.desk_http.proofs.RouteLemmas.{none_unfound, row_found}
use Rattle.desk_http.proofs.routes.Routes.find_text.Goals as goal

pub returns-in-Ok : goal.returns-in-Ok
returns-in-Ok c = row_found c.args.word.now _ (ap (λ rows. first rows c.args.word.now) (sym c.args.self.now.built) ∙ c.in-Ok.ensures.found)

pub returns-in-Err : goal.returns-in-Err
returns-in-Err c = none_unfound c.args.word.now (ap (λ rows. first rows c.args.word.now) (sym c.args.self.now.built) ∙ c.in-Err.ensures.missing)
