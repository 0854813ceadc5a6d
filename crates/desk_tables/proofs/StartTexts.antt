-- The texts of the base substances are codes and names, and their rows stand in order of code.
use Rattle.std.proofs.Common.{◌≡◌, Bool, true, false, List, [], ℕ, Option, Result, Ok, Err, map, refl, ap, ◌∙◌, ◌≤◌, length, take}
use Rattle.std.specs.Prelude.{is_ok}
use Rattle.std.proofs.lemmas.Bool.{false≢true}
use Rattle.desk_text.specs.Code.{code_cmp}
use Rattle.desk_text.specs.Name.{name_of}
use Rattle.desk_text.specs.declared.name.NameFault.{NameFault}
use Rattle.desk_text.specs.declared.name.NameFault.TheVariants.{OutOfMemory}
use Rattle.desk_text.proofs.NameLemmas.{name_of-Ok}
use Rattle.desk_rows.specs.Rows.{with_rows}
use Rattle.desk_law.specs.declared.rule.Rule.{Rule}
use Rattle.desk_law.specs.Rule.{base_rules, rule_code, rule_number}
use Rattle.desk_model.specs.declared.rows.member.MemberRow.{MemberRow}
use Rattle.desk_model.specs.declared.rows.substance.SubstanceRow.{SubstanceRow}
use Rattle.desk_tables.proofs.Taken.{take_whole}
use Rattle.desk_model.specs.Lists.{member_key, member_key_cmp}
use Rattle.desk_model.specs.Start.{base_cas, base_member, base_name, base_substance, rules_by_code}
use Rattle.desk_model.proofs.BaseSubstances.{base_named}

spelled : (bytes : List ℕ) (read : Result (List ℕ) NameFault) → name_of bytes ≡ read → is_ok read ≡ true → name_of bytes ≡ Ok bytes
spelled bytes (Ok name) e f = e ∙ ap Ok (name_of-Ok bytes name e).0
spelled bytes (Err fault) e f = absurd (false≢true f)

pub base_is_name : (rule : Rule) → name_of (base_name rule) ≡ Ok (base_name rule)
base_is_name rule = spelled (base_name rule) (name_of (base_name rule)) refl (base_named rule)

pub substances_by_code : with_rows (λ row. row.code) code_cmp (map base_substance base_rules) [] ≡ map base_substance rules_by_code
unfolding rule_code
substances_by_code = refl

pub members_by_code : with_rows member_key member_key_cmp (map base_member base_rules) [] ≡ map base_member rules_by_code
unfolding rule_code rule_number
members_by_code = refl

pub inside_ok : {X F : Type 0} (x y : X) (read : Result X F) → read ≡ Ok x → read ≡ Ok y → x ≡ y
inside_ok x y read e f = cc

pub all_substances : (rules : List Rule) (rows : List SubstanceRow) (i : ℕ) → rules ≡ base_rules → length rules ≤ i → rows ≡ map base_substance (take i rules) → with_rows (λ row. row.code) code_cmp rows [] ≡ map base_substance rules_by_code
all_substances rules rows i e l h = ap (λ all. with_rows (λ row. row.code) code_cmp all []) (h ∙ ap (map base_substance) (take_whole rules i l ∙ e)) ∙ substances_by_code

pub all_members : (rules : List Rule) (rows : List MemberRow) (i : ℕ) → rules ≡ base_rules → length rules ≤ i → rows ≡ map base_member (take i rules) → with_rows member_key member_key_cmp rows [] ≡ map base_member rules_by_code
all_members rules rows i e l h = ap (λ all. with_rows member_key member_key_cmp all []) (h ∙ ap (map base_member) (take_whole rules i l ∙ e)) ∙ members_by_code

unfoldable pub base_with : List ℕ → List ℕ → Option (List ℕ) → SubstanceRow
base_with code name cas = record { code = code; name = name; cas = cas }

pub base_row : (rule : Rule) (code name : List ℕ) (cas : Option (List ℕ)) → code ≡ rule_code rule → name ≡ base_name rule → cas ≡ base_cas rule → base_with code name cas ≡ base_substance rule
unfolding base_with
base_row rule code name cas e f g = ap (λ code. base_with code name cas) e ∙ ap (λ name. base_with (rule_code rule) name cas) f ∙ ap (base_with (rule_code rule) (base_name rule)) g

ok_is_no_err : {X F : Type 0} (x : X) (fault : F) (read : Result X F) → read ≡ Ok x → read ≡ Err fault → ⊥
ok_is_no_err x fault read e f = cc

pub name_read : (rule : Rule) (bytes name : List ℕ) (read : Result (List ℕ) NameFault) → read ≡ Ok name → ((read ≡ Err OutOfMemory → ⊥) → read ≡ name_of bytes) → bytes ≡ base_name rule → name ≡ base_name rule
name_read rule bytes name read e h same =
    inside_ok name (base_name rule) read e (h (ok_is_no_err name OutOfMemory read e) ∙ ap name_of same ∙ base_is_name rule)
