use Rattle.desk_clerk.proofs.CoreKept.{changed_there, one_at, reached_keeps}
use Rattle.desk_clerk.proofs.laws.core_keeps.Goals as goal

pub returns : goal.returns
returns c = record {
  history = λ core r. (reached_keeps core r).history;
  published = λ core r. (reached_keeps core r).published;
  notes = λ core r. (reached_keeps core r).notes;
  seats = λ core r. (reached_keeps core r).seats;
  looks = λ core seat question list r there. (one_at core.published seat core.seats list (reached_keeps core r).seats there, changed_there seat core.published core.seats list there);
}
