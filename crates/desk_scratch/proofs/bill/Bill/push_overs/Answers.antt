-- One more rule, which is a finding where the material is over its limit.
use Rattle.std.proofs.Common.{◌≡◌, ◌++◌, ◌∷◌, ◌∙◌, ℕ, List, [], ap, arith, map, refl, sym}
use Rattle.std.specs.Prelude.{if◌then◌else◌}
use Rattle.desk_law.specs.declared.rule.Rule.{Rule}
use Rattle.desk_law.specs.Limit.{is_over, limit_of}
use Rattle.desk_law.specs.Rule.{restricting_rules}
use Rattle.desk_model.specs.declared.rows.material.MaterialRow.{MaterialRow}
use Rattle.desk_model.specs.Lists.{Lists}
use Rattle.desk_findings.specs.Findings.{Finding, over}
use Rattle.desk_findings.specs.Share.{is_over_limit, share}
use Rattle.desk_scratch.specs.LookUps.{finding_of}
use Rattle.desk_scratch.proofs.Lines.{line-added, map-filter}
use Rattle.desk_scratch.proofs.bill.Bill.push_overs.Goals as goal

over_step : (t : Lists) (material : MaterialRow) (rule : Rule) (n : ℕ) (mid new : List Finding) → n ≡ share t rule material
    → new ≡ mid ++ (if is_over n material.mass (limit_of rule) then over material.code rule ∷ [] else []) → new ≡ mid ++ (if is_over_limit t rule material then over material.code rule ∷ [] else [])
over_step t material rule n mid new e step = step ∙ ap (λ s. mid ++ (if is_over s material.mass (limit_of rule) then over material.code rule ∷ [] else [])) e

pub loop-rule-preserved : goal.loop-rule-preserved
loop-rule-preserved c =
    let t = c.args.self.now in
    let material = c.args.material.now in
    let share = c.share-share.ensures t material (c.in_ok-holdings.ensures ∙ rw (c.tables.ensures.lists, c.as_slice.ensures) refl) in
    record {
      rules = refl;
      list =
          line-added (λ rule. if is_over_limit t rule material then over material.code rule ∷ [] else []) restricting_rules c.loop-rule.rule-index _ (map finding_of c.args.list.now.items) (map finding_of c.loop-rule.list.items)
          (map finding_of c.push_if_over.new.list.items) (omega arith) c.loop-rule.invariant.list (over_step t material _ _ _ _ share c.in_ok-push_if_over.ensures);
    }

pub returns : goal.returns
returns c =
    let t = c.args.self.now in
    let material = c.args.material.now in
    let all : c.loop-rule.rule-index ≡ 10 = omega arith in
    (rw all at c.loop-rule.invariant.list)
    ∙ ap (λ list. map finding_of c.args.list.now.items ++ list) (sym (map-filter (over material.code) (λ rule. is_over_limit t rule material) restricting_rules))
