-- Facts on the rules. Only `rule_at` goes through them one by one; the others follow from it and from a test of all of them.
use Rattle.std.proofs.Common.{◌≡◌, ◌≤◌, ◌<◌, ◌-◌, ℕ, Bool, true, false, Ok, Result, Err, List, length, get_or, refl, sym, ap, ◌∙◌, subst, inl, inr, arith}
use Rattle.std.specs.Prelude.{◌==◌, count_by, is_ok, nat_le}
use Rattle.std.specs.List.{list_all, list_any}
use Rattle.std.specs.List.Sorted.{IsStrictlySortedBy}
use Rattle.std.specs.Ordering.{nat_cmp, on}
use Rattle.std.proofs.lemmas.Bool.{cases_lt, eqb-true, false≢true, leb-true}
use Rattle.std.proofs.lemmas.List.{get_or_past}
use Rattle.std.proofs.lemmas.List.Folds.{list_all_at, list_any_at}
use Rattle.desk_text.specs.Code.{code_of}
use Rattle.desk_text.specs.declared.code.CodeFault.{CodeFault}
use Rattle.desk_text.proofs.CodeLemmas.{code_of-Ok}
use Rattle.desk_law.specs.declared.rule.Rule.{Rule}
use Rattle.desk_law.specs.declared.rule.Rule.TheVariants.{Lead, Mercury, Cadmium, ChromiumVi, Pbb, Pbde, Dehp, Bbp, Dbp, Dibp}
use Rattle.desk_law.specs.Rule.{all_rules, rule_code, rule_number, same_rule}

-- each rule stands among all rules at its number less one
pub rule_at : (rule : Rule) → get_or all_rules (rule_number rule - 1) Lead ≡ rule
unfolding rule_number
rule_at Lead = refl
rule_at Mercury = refl
rule_at Cadmium = refl
rule_at ChromiumVi = refl
rule_at Pbb = refl
rule_at Pbde = refl
rule_at Dehp = refl
rule_at Bbp = refl
rule_at Dbp = refl
rule_at Dibp = refl

number_of_lead : rule_number Lead ≡ 1
unfolding rule_number
number_of_lead = refl

-- and that place is in the list: past its end only lead would be found, which stands first
pub rule_inside : (rule : Rule) → rule_number rule - 1 < length all_rules
rule_inside rule =
    elim (cases_lt (rule_number rule - 1) (length all_rules)) [
      | inl inside ↦ inside
      | inr past ↦
          let first : rule_number rule ≡ 1 = ap rule_number (sym (rule_at rule) ∙ get_or_past all_rules (rule_number rule - 1) Lead past) ∙ number_of_lead in
          absurd (omega (arith, first, past))
    ]

-- so it fits into 32 bits
pub rule_below : (rule : Rule) → rule_number rule < 4294967296
rule_below rule = omega (arith, rule_inside rule)

-- what each of the listed rules passes, every rule passes
pub each_rule : (test : Rule → Bool) → list_all test all_rules ≡ true → (rule : Rule) → test rule ≡ true
each_rule test all rule = subst (λ r. test r ≡ true) (rule_at rule) (by (test (get_or all_rules (rule_number rule - 1) Lead)) refl)
  where
    by : (b : Bool) → test (get_or all_rules (rule_number rule - 1) Lead) ≡ b → b ≡ true
    by true e = refl
    by false e = absurd (false≢true (sym (list_all_at test all_rules (rule_number rule - 1) Lead (rule_inside rule) e) ∙ all))

-- what some rule passes, some listed rule passes
pub some_rule : (test : Rule → Bool) (rule : Rule) → test rule ≡ true → list_any test all_rules ≡ true
some_rule test rule passes =
    list_any_at test all_rules (rule_number rule - 1) Lead (rule_inside rule) (subst (λ r. test r ≡ true) (sym (rule_at rule)) passes)

-- so what no listed rule passes, no rule passes
pub no_rule : (test : Rule → Bool) → list_any test all_rules ≡ false → (rule : Rule) → test rule ≡ false
no_rule test none rule = by (test rule) refl
  where
    by : (b : Bool) → test rule ≡ b → b ≡ false
    by true e = absurd (false≢true (sym none ∙ some_rule test rule e))
    by false e = refl

-- two rules of one number are one rule
pub same_rule-true : (a b : Rule) → same_rule a b ≡ true → a ≡ b
same_rule-true a b e =
    sym (rule_at a) ∙ ap (λ n. get_or all_rules (n - 1) Lead) (eqb-true (rule_number a) (rule_number b) e) ∙ rule_at b

-- each rule stands once among all rules
pub rule_once : (rule : Rule) → count_by (same_rule rule) all_rules ≡ 1
unfolding rule_number
rule_once rule = eqb-true (count_by (same_rule rule) all_rules) 1 (each_rule (λ r. count_by (same_rule r) all_rules == 1) refl rule)

-- and they stand in the order of their numbers
pub rules_rise : IsStrictlySortedBy (on rule_number nat_cmp) all_rules
unfolding IsStrictlySortedBy rule_number
rules_rise = Prim.search (arith)

spelled : (bytes : List ℕ) (read : Result (List ℕ) CodeFault) → code_of bytes ≡ read → is_ok read ≡ true → code_of bytes ≡ Ok bytes
spelled bytes (Ok code) e f = e ∙ ap Ok (code_of-Ok bytes code e).0
spelled bytes (Err fault) e f = absurd (false≢true f)

-- the code of a rule has the form of a code
pub rule_is_code : (rule : Rule) → code_of (rule_code rule) ≡ Ok (rule_code rule)
unfolding code_of rule_code
rule_is_code rule = spelled (rule_code rule) (code_of (rule_code rule)) refl (each_rule (λ r. is_ok (code_of (rule_code r))) refl rule)

-- and is short
pub rule_short : (rule : Rule) → length (rule_code rule) ≤ 11
unfolding rule_code
rule_short rule = leb-true (length (rule_code rule)) 11 (each_rule (λ r. nat_le (length (rule_code r)) 11) refl rule)
