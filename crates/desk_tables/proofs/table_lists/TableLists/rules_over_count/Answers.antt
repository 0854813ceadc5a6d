use Rattle.std.proofs.Common.{◌∙◌, sym}
use Rattle.std.proofs.lemmas.List.Sums.{length-filter}
use Rattle.desk_law.specs.Rule.{restricting_rules}
use Rattle.desk_findings.specs.Share.{is_over_limit}
use Rattle.desk_tables.proofs.table_lists.TableLists.rules_over_count.Goals as goal

pub returns : goal.returns
returns c = c.over_among.ensures ∙ sym (length-filter (λ rule. is_over_limit c.args.self.now rule c.args.material.now) restricting_rules)
