use Rattle.std.proofs.Common.{◌≡◌, true, false, MatchOption, ap, length, subst, sym, ◌∙◌}
use Rattle.std.specs.Prelude.{nat_lt}
use Rattle.desk_model.specs.Lists.{is_part}
use Rattle.desk_findings.specs.Findings.{findings}
use Rattle.desk_findings.specs.Totals.{has_too_many_findings, too_heavy_part}
use Rattle.desk_tables.proofs.SumsTold.{found_part, heavy_part}
use Rattle.desk_tables.proofs.Telling.{part_named}
use Rattle.desk_tables.proofs.tables.Tables.test_sums.Goals as goal

pub returns-in-Some-clause-told : goal.returns-in-Some-clause-told
returns-in-Some-clause-told c =
    let t = c.args.self.now.lists in
    part_named t c.in-Some.part c.part_fault.result (heavy_part t c.in-Some.part (sym (c.too_heavy_part.ensures ∙ ap too_heavy_part c.lists-lists.ensures) ∙ c.in-Some.is)) c.part_fault.ensures

pub returns-in-Some-found-clause-told : goal.returns-in-Some-found-clause-told
returns-in-Some-found-clause-told c =
    let t = c.args.self.now.lists in
    let code = c.in-Some-found.part in
    let some =
    subst (λ u. (has_too_many_findings u ≡ true) × (is_part u code ≡ true) × (nat_lt 0 (length (findings u code)) ≡ true)) c.lists-lists.ensures
    (subst (λ found. MatchOption found (has_too_many_findings c.lists-lists.result ≡ false) (λ part. (has_too_many_findings c.lists-lists.result ≡ true) × (is_part c.lists-lists.result part ≡ true) × (nat_lt 0 (length (findings c.lists-lists.result part)) ≡ true))) c.in-Some-found.is c.in_ok-found.ensures) in
    part_named t code c.part_fault-in-Some-found.result (found_part t code some.0 some.1 some.2) c.part_fault-in-Some-found.ensures
