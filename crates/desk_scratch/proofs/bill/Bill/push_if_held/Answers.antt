-- Nothing is found on an article that leads to no candidate.
use Rattle.std.proofs.Common.{◌≡◌, ◌∙◌, ◌++◌, Bool, true, false, List, [], ap, map, sym}
use Rattle.std.specs.Prelude.{◌&&◌, if◌then◌else◌}
use Rattle.std.specs.List.{list_any}
use Rattle.std.proofs.lemmas.List.{append-nil}
use Rattle.desk_model.specs.Lists.{Lists}
use Rattle.desk_findings.specs.Articles.{is_article_sort}
use Rattle.desk_findings.specs.Findings.{Finding, findings_of_article}
use Rattle.desk_findings.specs.Reaches.{lines_of}
use Rattle.desk_scratch.specs.LookUps.{finding_of, holds_candidate}
use Rattle.desk_scratch.proofs.NoneAbove.{no_findings}
use Rattle.desk_scratch.proofs.bill.Bill.push_if_held.Goals as goal

nothing : (b : Bool) (old found : List Finding) → found ≡ [] → old ≡ old ++ (if b then found else [])
nothing true old found e = sym (ap (λ list. old ++ list) e ∙ append-nil old)
nothing false old found e = sym (append-nil old)

pub returns-then-not-leads_to_candidate : goal.returns-then-not-leads_to_candidate
returns-then-not-leads_to_candidate c =
    let t = c.args.self.now in
    let part = c.args.part.now in
    let none =
    ap (λ (u : Lists). list_any (λ line. holds_candidate u line.child) (lines_of u.lines part.code)) (sym c.tables.ensures.lists) ∙ sym c.leads_to_candidate.ensures ∙ c.if-not-leads_to_candidate.true in
    nothing (is_article_sort part.sort && c.args.is_held) (map finding_of c.args.list.now.items) (findings_of_article t part) (no_findings t part none)
