-- The refusals 20 to 23 by what the parts tell.
use Rattle.std.proofs.Common.{◌≡◌, ℕ, ◌<◌, ◌≤◌, true, false, List, Some, None, map, option_map, refl, sym, ap, ◌∙◌}
use Rattle.std.proofs.lemmas.Bool.{le-ltb, lt-ltb}
use Rattle.desk_graph.specs.Graph.{Graph, label_of}
use Rattle.desk_rollup.specs.Plan.{AllFit, IsWithinLimits, IsFirstTooLarge}
use Rattle.desk_rollup.specs.Rolled.{mark_count}
use Rattle.desk_rollup.specs.Values.{OwnValues}
use Rattle.desk_tonnage.specs.Years.{too_heavy_entry_year as too_heavy_entries}
use Rattle.desk_model.specs.declared.edit.Edit.{Edit}
use Rattle.desk_model.specs.declared.rule_fault.RuleFault.TheVariants.{ClosesCycle, TotalTooLarge, FindingsFull, YearTooLarge}
use Rattle.desk_model.specs.Effect.{with_edit_entered}
use Rattle.desk_model.specs.Forms.{is_edit_in_form}
use Rattle.desk_model.specs.Lists.{Lists}
use Rattle.desk_findings.specs.Totals.{has_too_many_findings, too_heavy_part, too_heavy_year}
use Rattle.desk_history.specs.Refused.{closes_cycle, findings_full, refused_by_bill, refused_by_rows, total_too_large, year_too_large}
use Rattle.desk_history.specs.Sound.{IsConsistent}
use Rattle.desk_history.specs.Step.{kept_number}
use Rattle.desk_bridge.specs.Bridge.{IsBridge}
use Rattle.desk_bridge.specs.Planning.{cycle_by}
use Rattle.desk_bridge.specs.Refusals.{IsPassed}
use Rattle.desk_bridge.specs.Years.{entries_of}
use Rattle.desk_bridge.proofs.Refusals.{all_fit, first_large, too_many}
use Rattle.desk_bridge.proofs.Takes.{taken}
use Rattle.desk_bridge.proofs.Years.{heavy}

pub by_cycle : (t : Lists) → IsConsistent t → (edit : Edit) → is_edit_in_form edit ≡ true → kept_number t edit ≡ None → refused_by_rows t edit ≡ None →
    (g : Graph) → IsBridge t g → (chain : List ℕ) → cycle_by g edit ≡ Some chain → refused_by_bill t edit ≡ Some (ClosesCycle (map (label_of g.labels) chain))
unfolding refused_by_bill
by_cycle t s edit form is_new by_rows g bridge chain e =
    let told = (taken t s g bridge.bill bridge.of edit form is_new by_rows).cycle in
    let closes : closes_cycle t edit ≡ Some (ClosesCycle (map (label_of g.labels) chain)) = told ∙ ap (option_map (λ chain. ClosesCycle (map (label_of g.labels) chain))) e in
    rw closes refl

module _ (t : Lists) (edit : Edit) (g : Graph) (own : ℕ → OwnValues) (is : IsPassed t edit g own) where
  few_marks : mark_count g.lines own ≤ 4194304 → has_too_many_findings (with_edit_entered t edit) ≡ false
  few_marks few = too_many (with_edit_entered t edit) g is.number is.name own is.values ∙ le-ltb 4194304 (mark_count g.lines own) few

  light : AllFit g own → too_heavy_part (with_edit_entered t edit) ≡ None
  light fit = all_fit (with_edit_entered t edit) g is.number is.name own is.values fit

  pub by_weight : (node : ℕ) → IsFirstTooLarge g own node → refused_by_bill t edit ≡ Some (TotalTooLarge (label_of g.labels node))
  unfolding refused_by_bill total_too_large
  by_weight node first = rw (is.passes.by_cycle, first_large (with_edit_entered t edit) g is.number is.name own is.values node first) refl

  pub by_marks : AllFit g own → 4194304 < mark_count g.lines own → refused_by_bill t edit ≡ Some FindingsFull
  unfolding refused_by_bill total_too_large findings_full
  by_marks fit many =
      let full : has_too_many_findings (with_edit_entered t edit) ≡ true = too_many (with_edit_entered t edit) g is.number is.name own is.values ∙ lt-ltb 4194304 (mark_count g.lines own) many in
      rw (is.passes.by_cycle, light fit, full) refl

  pub by_year : IsWithinLimits g own → (year : ℕ) → too_heavy_entries (entries_of (with_edit_entered t edit)) ≡ Some year → refused_by_bill t edit ≡ Some (YearTooLarge year)
  unfolding refused_by_bill total_too_large findings_full year_too_large
  by_year accepted year e =
      let told : too_heavy_year (with_edit_entered t edit) ≡ Some year = sym (heavy (with_edit_entered t edit)) ∙ e in
      rw (is.passes.by_cycle, light accepted.fit, few_marks accepted.count, told) refl

  pub by_none : IsWithinLimits g own → too_heavy_entries (entries_of (with_edit_entered t edit)) ≡ None → refused_by_bill t edit ≡ None
  unfolding refused_by_bill total_too_large findings_full year_too_large
  by_none accepted e =
      let told : too_heavy_year (with_edit_entered t edit) ≡ None = sym (heavy (with_edit_entered t edit)) ∙ e in
      rw (is.passes.by_cycle, light accepted.fit, few_marks accepted.count, told) refl
