-- Rows whose codes have two parts: the codes tell them exactly where the keys do.
use Rattle.std.proofs.Common.{◌≡◌, ℕ, ◌<◌, ◌^◌, true, List, [], ◌∷◌, decimal, refl, sym, ap, ◌∙◌, Ordering, Less, Equal, Greater, is_eq, Some}
use Rattle.std.specs.Cmp.{both_ways, unsigned_tied}
use Rattle.std.specs.Ordering.{nat_cmp, ordering_then}
use Rattle.std.proofs.lemmas.Bool.{false≢true}
use Rattle.std.proofs.lemmas.Cmp.{ranked, tied_itself}
use Rattle.std.proofs.lemmas.Fmt.{decimal_injective}
use Rattle.std.proofs.lemmas.List.{append_assoc}
use Rattle.desk_text.specs.Code.{code_cmp, same_code}
use Rattle.desk_text.proofs.Fields.{Lacks, front-apart}
use Rattle.desk_law.specs.declared.rule.Rule.{Rule}
use Rattle.desk_law.specs.Rule.{rule_code, rule_number, rule_of}
use Rattle.desk_law.proofs.Codes.{rule_of-rule_code}
use Rattle.desk_model.specs.Lists.{line_key_cmp, member_key_cmp, shipment_key_cmp}
use Rattle.desk_model.specs.Rows.{pair_code}
use Rattle.desk_law.proofs.Rules.{same_rule-true}
use Rattle.desk_model.proofs.Kept.{line_key_cmp_total, member_key_cmp_total, same_code-from, same_code-true, shipment_key_cmp_total}
use Rattle.desk_records.proofs.Moves.{is_equal}

-- the parts of a code, of which the first has no slash
pair_apart : (a b c d : List ℕ) → Lacks 47 a → Lacks 47 c → pair_code a b ≡ pair_code c d → (a ≡ c) × (b ≡ d)
pair_apart a b c d first other e = front-apart 47 a c b d first other (sym (append_assoc a (47 ∷ []) b) ∙ e ∙ append_assoc c (47 ∷ []) d)

then_both : (a b : Ordering) → is_eq (ordering_then a b) ≡ true → (is_eq a ≡ true) × (is_eq b ≡ true)
then_both Less b e = absurd (false≢true e)
then_both Equal b e = (refl, e)
then_both Greater b e = absurd (false≢true e)

some_rule : (a b : Rule) → Some a ≡ Some b → a ≡ b
some_rule a b e = cc

same_rule_code : (a b : Rule) → rule_code a ≡ rule_code b → a ≡ b
same_rule_code a b e = some_rule a b (sym (rule_of-rule_code a) ∙ ap rule_of e ∙ rule_of-rule_code b)

equal_numbers : (m n : ℕ) → is_eq (nat_cmp m n) ≡ true → m ≡ n
equal_numbers m n e = ranked m n Equal (sym (is_equal (nat_cmp m n) e))

pub lines_agree : (a b c d : List ℕ) → Lacks 47 a → Lacks 47 c → same_code (pair_code a b) (pair_code c d) ≡ is_eq (line_key_cmp (a, b) (c, d))
lines_agree a b c d first other =
    both_ways (same_code (pair_code a b) (pair_code c d)) (is_eq (line_key_cmp (a, b) (c, d)))
    (λ e.
    let p = pair_apart a b c d first other (same_code-true (pair_code a b) (pair_code c d) e) in
    sym (λ i. is_eq (line_key_cmp (a, b) (p.0 i, p.1 i))) ∙ ap is_eq (tied_itself line_key_cmp_total (a, b)))
    (λ e.
    let p = then_both (code_cmp a c) (code_cmp b d) e in
    let first = same_code-true a c p.0 in
    let second = same_code-true b d p.1 in
    same_code-from (pair_code a b) (pair_code c d) (λ i. pair_code (first i) (second i)))

pub members_agree : (a : List ℕ) (r : Rule) (c : List ℕ) (s : Rule) → Lacks 47 a → Lacks 47 c
    → same_code (pair_code a (rule_code r)) (pair_code c (rule_code s)) ≡ is_eq (member_key_cmp (a, rule_number r) (c, rule_number s))
members_agree a r c s first other =
    both_ways (same_code (pair_code a (rule_code r)) (pair_code c (rule_code s))) (is_eq (member_key_cmp (a, rule_number r) (c, rule_number s)))
    (λ e.
    let p = pair_apart a (rule_code r) c (rule_code s) first other (same_code-true (pair_code a (rule_code r)) (pair_code c (rule_code s)) e) in
    let rule = same_rule_code r s p.1 in
    sym (λ i. is_eq (member_key_cmp (a, rule_number r) (p.0 i, rule_number (rule i)))) ∙ ap is_eq (tied_itself member_key_cmp_total (a, rule_number r)))
    (λ e.
    let p = then_both (code_cmp a c) (nat_cmp (rule_number r) (rule_number s)) e in
    let first = same_code-true a c p.0 in
    let rule = same_rule-true r s (sym (unsigned_tied (rule_number r) (rule_number s)) ∙ p.1) in
    same_code-from (pair_code a (rule_code r)) (pair_code c (rule_code s)) (λ i. pair_code (first i) (rule_code (rule i))))

pub shipments_agree : (m : ℕ) (b : List ℕ) (n : ℕ) (d : List ℕ) → m < 2 ^ 64 → n < 2 ^ 64 → Lacks 47 (decimal m) → Lacks 47 (decimal n)
    → same_code (pair_code (decimal m) b) (pair_code (decimal n) d) ≡ is_eq (shipment_key_cmp (m, b) (n, d))
shipments_agree m b n d small few first other =
    both_ways (same_code (pair_code (decimal m) b) (pair_code (decimal n) d)) (is_eq (shipment_key_cmp (m, b) (n, d)))
    (λ e.
    let p = pair_apart (decimal m) b (decimal n) d first other (same_code-true (pair_code (decimal m) b) (pair_code (decimal n) d) e) in
    let year = decimal_injective m n small few p.0 in
    sym (λ i. is_eq (shipment_key_cmp (m, b) (year i, p.1 i))) ∙ ap is_eq (tied_itself shipment_key_cmp_total (m, b)))
    (λ e.
    let p = then_both (nat_cmp m n) (code_cmp b d) e in
    let year = equal_numbers m n p.0 in
    let second = same_code-true b d p.1 in
    same_code-from (pair_code (decimal m) b) (pair_code (decimal n) d) (λ i. pair_code (decimal (year i)) (second i)))
