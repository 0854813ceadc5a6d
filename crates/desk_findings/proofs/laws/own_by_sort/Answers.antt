use Rattle.desk_findings.proofs.OwnValues.{of_article, of_material, of_other}
use Rattle.desk_findings.proofs.laws.own_by_sort.Goals as goal

pub returns : goal.returns
returns c = record { material = of_material; article = of_article; other = of_other }
