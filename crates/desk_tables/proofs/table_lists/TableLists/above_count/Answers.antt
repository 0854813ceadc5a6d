use Rattle.std.proofs.Common.{◌∙◌, ap, sym, count_by, filter}
use Rattle.std.proofs.lemmas.List.{length-map}
use Rattle.std.proofs.lemmas.List.Sums.{length-filter}
use Rattle.desk_findings.specs.Above.{is_above}
use Rattle.desk_findings.specs.Findings.{Finding}
use Rattle.desk_tables.proofs.table_lists.TableLists.above_count.Goals as goal

pub returns : goal.returns
returns c =
    let t = c.args.self.now in
    let code = c.args.article.now.code in
    c.above_among.ensures ∙ ap (count_by (λ candidate. is_above t code candidate.substance)) c.candidates.ensures
    ∙ sym (length-filter (λ candidate. is_above t code candidate.substance) t.candidates)
    ∙ sym (length-map (filter (λ candidate. is_above t code candidate.substance) t.candidates) (λ candidate. Finding.above code candidate.substance))
