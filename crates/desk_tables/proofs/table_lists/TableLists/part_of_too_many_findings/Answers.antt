use Rattle.std.proofs.Common.{sym, ◌∙◌}
use Rattle.desk_tables.proofs.FoundParts.{many_found}
use Rattle.desk_tables.proofs.table_lists.TableLists.part_of_too_many_findings.Goals as goal

pub returns : goal.returns
returns c = many_found c.args.self.now c.part_with_findings.result (sym c.in_ok-is_full.ensures ∙ c.if-not-is_full.false) c.part_with_findings.ensures
