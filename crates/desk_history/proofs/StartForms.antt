-- The base substances are in form.
use Rattle.std.proofs.Common.{◌≡◌, true, ◌&&◌, refl, ap}
use Rattle.std.specs.Prelude.{is_ok}
use Rattle.std.proofs.lemmas.Bool.{and_from}
use Rattle.desk_law.specs.declared.rule.Rule.{Rule}
use Rattle.desk_law.specs.Rule.{rule_code}
use Rattle.desk_law.proofs.Rules.{rule_is_code}
use Rattle.desk_model.specs.Forms.{is_member_row, is_optional_cas, is_substance_row}
use Rattle.desk_model.specs.Values.{is_code, is_name}
use Rattle.desk_history.specs.Sound.{are_rows_in_form}
use Rattle.desk_model.specs.Start.{base_cas, base_member, base_name, base_substance, rules_by_code, start}
use Rattle.desk_model.proofs.BaseSubstances.{base_named, base_numbered}
use Rattle.desk_model.proofs.Elements.{all_from_each, each, each_of_map}
use Rattle.desk_history.proofs.SoundClauses.{FormsKept, forms_from}

coded : (rule : Rule) → is_code (rule_code rule) ≡ true
coded rule = ap is_ok (rule_is_code rule)

substance_in_form : (rule : Rule) → is_substance_row (base_substance rule) ≡ true
substance_in_form rule =
    and_from (is_code (rule_code rule) && is_name (base_name rule)) (is_optional_cas (base_cas rule)) (and_from (is_code (rule_code rule)) (is_name (base_name rule)) (coded rule) (base_named rule)) (base_numbered rule)

member_in_form : (rule : Rule) → is_member_row (base_member rule) ≡ true
member_in_form rule = rw (coded rule) refl

forms : FormsKept start
unfolding start
forms = record {
  substances = all_from_each is_substance_row start.substances (each_of_map (λ row. is_substance_row row ≡ true) base_substance rules_by_code (each (λ rule. is_substance_row (base_substance rule) ≡ true) substance_in_form rules_by_code));
  members = all_from_each is_member_row start.members (each_of_map (λ row. is_member_row row ≡ true) base_member rules_by_code (each (λ rule. is_member_row (base_member rule) ≡ true) member_in_form rules_by_code));
  materials = refl;
  parts = refl;
  lines = refl;
  products = refl;
  exemptions = refl;
  candidates = refl;
  shipments = refl;
}

-- the ten base substances are in form
pub start_in_form : are_rows_in_form start ≡ true
start_in_form = forms_from start forms
