use Rattle.desk_sample.proofs.NameForms.{article_name}
use Rattle.desk_sample.proofs.assembly.push_article.Goals as goal

pub name-requires : goal.name-requires
name-requires c = article_name
