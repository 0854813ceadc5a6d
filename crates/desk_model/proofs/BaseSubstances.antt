-- The base substances are those that have a rule's code, and their names and CAS numbers are in form.
use Rattle.std.proofs.Common.{◌≡◌, ℕ, Bool, true, false, cond, ◌||◌, List, [], ◌∷◌, find, map, Some, is_some, refl, sym, ap, ◌∙◌, inl, inr}
use Rattle.std.specs.List.{list_any}
use Rattle.std.specs.Str.{bytes_eq}
use Rattle.std.proofs.lemmas.Bool.{both_ways, cases_Bool, false_from_ne_true}
use Rattle.std.proofs.lemmas.Map.Text.{is_eq-slice_cmp}
use Rattle.desk_text.specs.Cas.{cas_of}
use Rattle.desk_text.specs.Code.{code_cmp, same_code}
use Rattle.desk_law.specs.declared.rule.Rule.{Rule}
use Rattle.desk_law.specs.declared.rule.Rule.TheVariants.{Lead, Mercury, Cadmium, ChromiumVi, Pbb, Pbde, Dehp, Bbp, Dbp, Dibp}
use Rattle.desk_law.specs.Rule.{base_rules, rule_code, rule_number, rule_of, same_rule}
use Rattle.desk_law.proofs.Rules.{each_rule, same_rule-true, some_rule}
use Rattle.desk_rows.specs.Rows.{row_of}
use Rattle.desk_model.specs.Forms.{is_optional_cas}
use Rattle.desk_model.specs.Lists.{is_substance, member_row, substance_row}
use Rattle.desk_model.specs.Start.{base_cas, base_member, base_name, base_substance, rules_by_code, start}
use Rattle.desk_model.specs.Values.{is_name}
use Rattle.desk_model.proofs.Elements.{any_gives, any_of_all, any_same, each, each_map}
use Rattle.desk_model.proofs.Names.{name_from}

found_any : {X : Type 0} (p : X → Bool) (xs : List X) → is_some (find p xs) ≡ list_any p xs
found_any p [] = refl
found_any p (x ∷ xs) = elim (p x) as (λ b. is_some (cond b (Some x) (find p xs)) ≡ (b || list_any p xs)) [ true ↦ refl | false ↦ found_any p xs ]

kept_any : (code : List ℕ) (rules : List Rule) → is_some (row_of (λ row. row.code) code_cmp code (map base_substance rules)) ≡ list_any (λ rule. same_code (rule_code rule) code) rules
kept_any code [] = refl
kept_any code (rule ∷ rules) =
    elim (same_code (rule_code rule) code) as (λ b. is_some (cond b (Some (base_substance rule)) (row_of (λ row. row.code) code_cmp code (map base_substance rules))) ≡ (b || list_any (λ r. same_code (rule_code r) code) rules)) [
      | true ↦ refl
      | false ↦ kept_any code rules
    ]

module _ (test : Rule → Bool) where
  -- a rule that passes stands among the base rules in order of their codes
  in_codes : (rule : Rule) → test rule ≡ true → list_any test rules_by_code ≡ true
  unfolding rule_number
  in_codes rule e =
      any_gives (same_rule rule) rules_by_code
      (each_map (λ listed. (p : Rule → Bool) → p listed ≡ true → list_any p rules_by_code ≡ true) (λ listed. same_rule rule listed ≡ true → list_any test rules_by_code ≡ true)
      (λ listed gives same. gives test (ap test (sym (same_rule-true rule listed same)) ∙ e)) rules_by_code (any_of_all rules_by_code))
      (each_rule (λ r. list_any (same_rule r) rules_by_code) refl rule)

  same_rules : list_any test rules_by_code ≡ list_any test base_rules
  same_rules =
      elim (cases_Bool (list_any test base_rules)) [
        | inl some ↦ any_gives test base_rules (each (λ rule. test rule ≡ true → list_any test rules_by_code ≡ true) in_codes base_rules) some ∙ sym some
        | inr none ↦
            false_from_ne_true (list_any test rules_by_code)
            (λ some. both_ways (list_any test base_rules) none (any_gives test rules_by_code (each (λ rule. test rule ≡ true → list_any test base_rules ≡ true) (some_rule test) rules_by_code) some))
            ∙ sym none
      ]

pub base_codes : (code : List ℕ) → is_substance start code ≡ is_some (rule_of code)
unfolding start rule_of
base_codes code =
    kept_any code rules_by_code
    ∙ same_rules (λ rule. same_code (rule_code rule) code)
    ∙ any_same (λ rule. same_code (rule_code rule) code) (λ rule. bytes_eq (rule_code rule) code) base_rules
    (each (λ rule. same_code (rule_code rule) code ≡ bytes_eq (rule_code rule) code) (λ rule. is_eq-slice_cmp (rule_code rule) code) base_rules)
    ∙ sym (found_any (λ rule. bytes_eq (rule_code rule) code) base_rules)

pub base_rows : (rule : Rule) → substance_row start (rule_code rule) ≡ Some (base_substance rule)
unfolding start rule_code
base_rows Lead = refl
base_rows Mercury = refl
base_rows Cadmium = refl
base_rows ChromiumVi = refl
base_rows Pbb = refl
base_rows Pbde = refl
base_rows Dehp = refl
base_rows Bbp = refl
base_rows Dbp = refl
base_rows Dibp = refl

pub base_members : (rule : Rule) → member_row start (rule_code rule) rule ≡ Some (base_member rule)
unfolding start rule_code rule_number
base_members Lead = refl
base_members Mercury = refl
base_members Cadmium = refl
base_members ChromiumVi = refl
base_members Pbb = refl
base_members Pbde = refl
base_members Dehp = refl
base_members Bbp = refl
base_members Dbp = refl
base_members Dibp = refl

-- the names of the base substances are names
pub base_named : (rule : Rule) → is_name (base_name rule) ≡ true
base_named Lead = name_from (base_name Lead) refl refl refl refl
base_named Mercury = name_from (base_name Mercury) refl refl refl refl
base_named Cadmium = name_from (base_name Cadmium) refl refl refl refl
base_named ChromiumVi = name_from (base_name ChromiumVi) refl refl refl refl
base_named Pbb = name_from (base_name Pbb) refl refl refl refl
base_named Pbde = name_from (base_name Pbde) refl refl refl refl
base_named Dehp = name_from (base_name Dehp) refl refl refl refl
base_named Bbp = name_from (base_name Bbp) refl refl refl refl
base_named Dbp = name_from (base_name Dbp) refl refl refl refl
base_named Dibp = name_from (base_name Dibp) refl refl refl refl

-- and their CAS numbers are CAS numbers
pub base_numbered : (rule : Rule) → is_optional_cas (base_cas rule) ≡ true
unfolding cas_of
base_numbered = each_rule (λ rule. is_optional_cas (base_cas rule)) refl
