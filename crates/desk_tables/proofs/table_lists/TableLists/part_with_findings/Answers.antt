use Rattle.std.proofs.Common.{◌≡◌, ◌∙◌, ◌<◌, ◌≤◌, ◌^◌, ℕ, true, false, List, Some, MatchOption, ap, sym, subst, length, get_or, map}
use Rattle.std.specs.Prelude.{nat_lt}
use Rattle.std.specs.List.{All, list_any}
use Rattle.desk_model.specs.declared.rows.line.LineRow.{LineRow}
use Rattle.desk_model.specs.Lists.{is_part}
use Rattle.desk_model.specs.declared.limits.TheConstants.{CONTENT_LIMIT}
use Rattle.desk_findings.specs.Above.{content}
use Rattle.desk_findings.specs.Findings.{findings}
use Rattle.desk_findings.specs.Mass.{mass}
use Rattle.desk_tables.specs.FindingCounts.{is_over_some_limit, own_of_part}
use Rattle.desk_tables.proofs.FoundParts.{article_found, nothing_found_at_all, parent_found}
use Rattle.desk_tables.proofs.HeldMasses.{contents_fit, few_held, masses_fit}
use Rattle.desk_tables.proofs.table_lists.TableLists.part_with_findings.Goals as goal

pub part_counts-requires-clause-fits : goal.part_counts-requires-clause-fits
part_counts-requires-clause-fits c =
    subst (All (λ part. (substance : List ℕ) → content c.args.self.now part.code substance < 2 ^ 128)) (sym c.parts.ensures)
    (contents_fit c.args.self.now c.requires.consistent c.requires.light)

pub part_counts-requires-clause-masses : goal.part_counts-requires-clause-masses
part_counts-requires-clause-masses c =
    c.requires.masses ∙ masses_fit c.args.self.now c.requires.consistent c.requires.light
    ∙ ap (map (λ part. Some (mass c.args.self.now part.code))) (sym c.parts.ensures)

pub material_counts-requires-clause-few : goal.material_counts-requires-clause-few
material_counts-requires-clause-few c =
    subst (All (λ material. length material.substances ≤ CONTENT_LIMIT)) (sym c.materials.ensures) (few_held c.args.self.now c.requires.consistent)

pub returns-in-Some : goal.returns-in-Some
returns-in-Some c =
    let t = c.args.self.now in
    let counts = c.as_slice.result.now in
    let place = c.in-Some.place in
    let row = c.index-parts-place.result in
    let some =
    subst (λ found. MatchOption found (list_any (λ count. nat_lt 0 count) counts ≡ false) (λ at. (at < length counts) × (nat_lt 0 (get_or counts at 0) ≡ true))) c.in-Some.is c.first_above_zero.ensures in
    subst (λ r. (is_part t r.code ≡ true) × (nat_lt 0 (length (findings t r.code)) ≡ true)) c.index-parts-place.is
    (article_found t c.parts-in-Some.result.now counts place row c.parts-in-Some.ensures (c.as_slice.ensures.value ∙ c.in_ok-of_parts.ensures ∙ ap (map (own_of_part t)) c.parts.ensures) some.0 c.index-parts-place.is some.1)

pub returns-in-Some-line_to_findings : goal.returns-in-Some-line_to_findings
returns-in-Some-line_to_findings c =
    let t = c.args.self.now in
    let place = c.in-Some-line_to_findings.place in
    let row = c.index-lines-place.result in
    let over =
    subst (λ found. MatchOption found (list_any (λ line. is_over_some_limit t line.child) t.lines ≡ false) (λ at. (at < length t.lines) × ((d : LineRow) → is_over_some_limit t (get_or t.lines at d).child ≡ true)))
    c.in-Some-line_to_findings.is c.line_to_findings.ensures in
    subst (λ r. (is_part t r.parent ≡ true) × (nat_lt 0 (length (findings t r.parent)) ≡ true)) c.index-lines-place.is
    (parent_found t c.requires.consistent c.lines.result.now place row c.lines.ensures over.0 c.index-lines-place.is over.1)

pub returns : goal.returns
returns c =
    let t = c.args.self.now in
    let counts = c.as_slice.result.now in
    let none =
    subst (λ found. MatchOption found (list_any (λ count. nat_lt 0 count) counts ≡ false) (λ at. (at < length counts) × (nat_lt 0 (get_or counts at 0) ≡ true))) c.in_default.is c.first_above_zero.ensures in
    let lines =
    subst (λ found. MatchOption found (list_any (λ line. is_over_some_limit t line.child) t.lines ≡ false) (λ at. (at < length t.lines) × ((d : LineRow) → is_over_some_limit t (get_or t.lines at d).child ≡ true)))
    c.in-None.is c.line_to_findings.ensures in
    nothing_found_at_all t c.requires.consistent
    (ap (list_any (λ count. nat_lt 0 count)) (sym (c.as_slice.ensures.value ∙ c.in_ok-of_parts.ensures ∙ ap (map (own_of_part t)) c.parts.ensures)) ∙ none) lines
