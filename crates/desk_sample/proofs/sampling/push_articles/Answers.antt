use Rattle.std.proofs.Common.{arith}
use Rattle.desk_sample.specs.Sample.{article}
use Rattle.desk_sample.proofs.Gained.{gained_next, gained_none}
use Rattle.desk_sample.proofs.sampling.push_articles.Goals as goal

pub articles-init : goal.articles-init
articles-init c = (gained_none _, omega arith)

pub articles-preserved : goal.articles-preserved
articles-preserved c = (gained_next c.articles.number (article c.args.n) _ _ _ c.articles.invariant.0 c.in_ok-push_article.ensures, omega (arith, c.articles-test.true))
