use Rattle.std.proofs.Common.{◌≡◌, subst, sym, true}
use Rattle.std.specs.List.{list_any}
use Rattle.desk_text.specs.Code.{same_code}
use Rattle.desk_findings.specs.Findings.{above, over}
use Rattle.desk_findings.specs.Numbering.{is_found}
use Rattle.desk_scratch.specs.LookUps.{finding_of}
use Rattle.desk_engine.proofs.Decoded.{article_kept, found_of, material_kept}
use Rattle.desk_engine.proofs.chained.mark_of.Goals as goal

pub kept_node-requires-clause-kept : goal.kept_node-requires-clause-kept
kept_node-requires-clause-kept c =
    let t = c.args.tables.now.lists in
    material_kept t c.in-Over.material (found_of t (over c.in-Over.material c.in-Over.rule) (subst (λ told. is_found t (finding_of told) ≡ true) c.in-Over.is c.requires.found))

pub kept_node-requires-in-Above-clause-kept : goal.kept_node-requires-in-Above-clause-kept
kept_node-requires-in-Above-clause-kept c =
    let t = c.args.tables.now.lists in
    article_kept t c.in-Above.article (found_of t (above c.in-Above.article c.in-Above.substance) (subst (λ told. is_found t (finding_of told) ≡ true) c.in-Above.is c.requires.found)).0

pub name_of-requires-clause-named : goal.name_of-requires-clause-named
name_of-requires-clause-named c =
    let t = c.args.tables.now.lists in
    let found = found_of t (above c.in-Above.article c.in-Above.substance) (subst (λ told. is_found t (finding_of told) ≡ true) c.in-Above.is c.requires.found) in
    subst (λ names. list_any (λ listed. same_code listed c.in-Above.substance) names ≡ true) (sym c.as_slice.ensures) (c.requires.stored.of.named.named.named c.in-Above.substance found.1)
