-- What an accepted edit makes of sound tables keeps the clauses on rows, names and codes: the edits but part and line.
use Rattle.std.proofs.Common.{◌≡◌, ℕ, zero, suc, ◌+◌, ◌-◌, ◌≤◌, Bool, true, false, cond, not, ◌&&◌, List, [], ◌∷◌, Option, Some, None, is_some, refl, arith}
use Rattle.std.specs.Prelude.{nat_le, nat_lt}
use Rattle.std.specs.List.{AllByRecursion, list_all}
use Rattle.std.specs.Option.{option_map_or}
use Rattle.std.specs.declared.cmp.Ordering.{Ordering}
use Rattle.std.proofs.lemmas.Bool.{and_from, and_parts, le-leb, leb-true, ltb-false, not-false, not_from_false}
use Rattle.desk_text.specs.Code.{code_cmp}
use Rattle.desk_text.specs.Day.{Date, is_day}
use Rattle.desk_law.specs.declared.kind.Kind.{Kind}
use Rattle.desk_law.specs.declared.rule.Rule.{Rule}
use Rattle.desk_law.specs.Rule.{rule_number}
use Rattle.desk_rows.specs.Rows.{row_of, with_row, with_rows, without_row}
use Rattle.desk_rows.proofs.Edits.{IsByKey-with_row, IsByKey-without_row}
use Rattle.desk_rows.proofs.Lookups.{each_with_row, each_with_rows, each_without_row, kept-with_row}
use Rattle.desk_model.specs.declared.edit.Edit.TheVariants.{Substance, Member, Product, Exemption, Unexempt, Candidate, Ship, Unship}
use Rattle.desk_model.specs.declared.rows.substance.SubstanceRow.{SubstanceRow}
use Rattle.desk_model.specs.declared.rows.member.MemberRow.{MemberRow}
use Rattle.desk_model.specs.declared.rows.product.ProductRow.{ProductRow}
use Rattle.desk_model.specs.declared.rows.candidate.CandidateRow.{CandidateRow}
use Rattle.desk_model.specs.declared.rows.exemption.ExemptionRow.{ExemptionRow}
use Rattle.desk_model.specs.declared.rows.shipment.ShipmentRow.{ShipmentRow}
use Rattle.desk_model.specs.declared.rule_fault.RuleFault.{RuleFault}
use Rattle.desk_model.specs.Effect.{with_edit_made, units_of, with_units}
use Rattle.desk_model.specs.Forms.{are_units, is_exemption_row, is_member_row, is_optional_cas, is_shipment_row, is_substance_row, is_candidate_row, is_product_row, is_edit_in_form, is_year}
use Rattle.desk_model.specs.Values.{is_code, is_name}
use Rattle.desk_model.specs.Lists.{Lists, is_part, is_product, is_substance, member_key, member_key_cmp, shipment_key, shipment_key_cmp, shipment_row}
use Rattle.desk_history.specs.Refused.{outside_annex, exemption_span, refuse_if, units_too_large, unknown_part, unknown_product, unknown_substance}
use Rattle.desk_model.specs.Terms.{breaks_annex, breaks_span}
use Rattle.desk_model.specs.declared.limits.TheConstants.{UNITS_LIMIT, WHOLE_FACTOR}
use Rattle.desk_history.proofs.ChangedTables.{good-candidates, good-exemptions, good-members, good-products, good-shipments, good-substances}
use Rattle.desk_model.proofs.Elements.{all_from_each, each_from_all}
use Rattle.desk_history.proofs.SoundClauses.{IsGood}
use Rattle.desk_model.proofs.Kept.{code_cmp_total, member_key_cmp_total, shipment_key_cmp_total}
use Rattle.desk_history.proofs.Rules.{IsUnrefused}

-- a rule that doesn't refuse, by its test
pub refuse_if-none : (test : Bool) (fault : RuleFault) → refuse_if test fault ≡ None → test ≡ false
refuse_if-none true fault e = some_none fault e
  where
    some_none : (x : RuleFault) {G : Type 0} → Some x ≡ None → G
    some_none x h = cc
refuse_if-none false fault e = refl

pub refuse_unless : (test : Bool) (fault : RuleFault) → refuse_if (not test) fault ≡ None → test ≡ true
refuse_unless test fault e = not-false test (refuse_if-none (not test) fault e)

module _ {R K : Type 0} (key : R → K) (cmp : K → K → Ordering) where
  -- a test of each row, after a change of the list
  pub all_with_row : (p : R → Bool) (new : R) (rows : List R) → p new ≡ true → list_all p rows ≡ true → list_all p (with_row key cmp new rows) ≡ true
  all_with_row p new rows e f = all_from_each p (with_row key cmp new rows) (each_with_row key cmp (λ row. p row ≡ true) new rows e (each_from_all p rows f))

  pub all_with_rows : (p : R → Bool) (more rows : List R) → list_all p more ≡ true → list_all p rows ≡ true → list_all p (with_rows key cmp more rows) ≡ true
  all_with_rows p more rows e f = all_from_each p (with_rows key cmp more rows) (each_with_rows key cmp (λ row. p row ≡ true) more rows (each_from_all p more e) (each_from_all p rows f))

  pub all_without_row : (p : R → Bool) (k : K) (rows : List R) → list_all p rows ≡ true → list_all p (without_row key cmp k rows) ≡ true
  all_without_row p k rows f = all_from_each p (without_row key cmp k rows) (each_without_row key cmp (λ row. p row ≡ true) k rows (each_from_all p rows f))

module _ (t : Lists) (g : IsGood t) where
  pub good-substance : (ticket code name : List ℕ) (cas : Option (List ℕ)) → is_edit_in_form (Substance ticket code name cas) ≡ true → IsGood (with_edit_made t (Substance ticket code name cas))
  unfolding with_edit_made is_edit_in_form
  good-substance ticket code name cas form =
      let new : SubstanceRow = record { code = code; name = name; cas = cas } in
      let f3 = and_parts (is_code ticket && is_code code && is_name name) (is_optional_cas cas) form in
      let f2 = and_parts (is_code ticket && is_code code) (is_name name) f3.0 in
      let f1 = and_parts (is_code ticket) (is_code code) f2.0 in
      good-substances t (with_row (λ row. row.code) code_cmp new t.substances) g
      (IsByKey-with_row (λ row. row.code) code_cmp code_cmp_total new t.substances g.ordered.substances)
      (all_with_row (λ row. row.code) code_cmp is_substance_row new t.substances (rw (f1.1, f2.1, f3.1) refl) g.forms.substances)
      (record {
        substances = λ c kept. kept-with_row (λ row. row.code) code_cmp code_cmp_total c new t.substances kept;
        materials = λ c kept. kept;
        parts = λ c kept. kept;
        articles = λ c kept. kept;
        assemblies = λ c kept. kept;
        products = λ c kept. kept;
      })

  pub good-member : (ticket substance : List ℕ) (rule : Rule) (factor : ℕ) → is_edit_in_form (Member ticket substance rule factor) ≡ true → IsUnrefused t (Member ticket substance rule factor) → IsGood (with_edit_made t (Member ticket substance rule factor))
  unfolding with_edit_made is_edit_in_form unknown_substance
  good-member ticket substance rule zero form u =
      good-members t (without_row member_key member_key_cmp (substance, rule_number rule) t.members) g
      (IsByKey-without_row member_key member_key_cmp member_key_cmp_total (substance, rule_number rule) t.members g.ordered.members)
      (all_without_row member_key member_key_cmp is_member_row (substance, rule_number rule) t.members g.forms.members)
      (all_without_row member_key member_key_cmp (λ member. is_substance t member.substance) (substance, rule_number rule) t.members g.names.members)
  good-member ticket substance rule (suc fewer) form u =
      let new : MemberRow = record { substance = substance; rule = rule; factor = suc fewer } in
      let f2 = and_parts (is_code ticket && is_code substance) (nat_le (suc fewer) WHOLE_FACTOR) form in
      let f1 = and_parts (is_code ticket) (is_code substance) f2.0 in
      good-members t (with_row member_key member_key_cmp new t.members) g
      (IsByKey-with_row member_key member_key_cmp member_key_cmp_total new t.members g.ordered.members)
      (all_with_row member_key member_key_cmp is_member_row new t.members
      (and_from (is_code substance && nat_le 1 (suc fewer)) (nat_le (suc fewer) WHOLE_FACTOR) (and_from (is_code substance) (nat_le 1 (suc fewer)) f1.1 (le-leb 1 (suc fewer) (omega arith))) f2.1) g.forms.members)
      (all_with_row member_key member_key_cmp (λ member. is_substance t member.substance) new t.members (refuse_unless _ _ u.unknown_substance) g.names.members)

  pub good-product : (ticket part : List ℕ) (kind : Kind) → is_edit_in_form (Product ticket part kind) ≡ true → IsUnrefused t (Product ticket part kind) → IsGood (with_edit_made t (Product ticket part kind))
  unfolding with_edit_made is_edit_in_form unknown_part
  good-product ticket part kind form u =
      let new : ProductRow = record { part = part; kind = kind } in
      let f1 = and_parts (is_code ticket) (is_code part) form in
      good-products t (with_row (λ row. row.part) code_cmp new t.products) g
      (IsByKey-with_row (λ row. row.part) code_cmp code_cmp_total new t.products g.ordered.products)
      (all_with_row (λ row. row.part) code_cmp is_product_row new t.products f1.1 g.forms.products)
      (all_with_row (λ row. row.part) code_cmp (λ product. is_part t product.part) new t.products (refuse_unless _ _ u.unknown_part) g.names.products)
      (record {
        substances = λ c kept. kept;
        materials = λ c kept. kept;
        parts = λ c kept. kept;
        articles = λ c kept. kept;
        assemblies = λ c kept. kept;
        products = λ c kept. kept-with_row (λ row. row.part) code_cmp code_cmp_total c new t.products kept;
      })

  pub good-exemption : (ticket : List ℕ) (exemption : ExemptionRow) → is_edit_in_form (Exemption ticket exemption) ≡ true → IsUnrefused t (Exemption ticket exemption) → IsGood (with_edit_made t (Exemption ticket exemption))
  unfolding with_edit_made is_edit_in_form exemption_span outside_annex
  good-exemption ticket exemption form u =
      let f1 = and_parts (is_code ticket) (is_exemption_row exemption) form in
      let span = refuse_if-none (breaks_span exemption.terms) _ u.exemption_span in
      let annex = refuse_if-none (breaks_annex exemption.terms) _ u.outside_annex in
      good-exemptions t (with_row (λ row. row.terms.row) code_cmp exemption t.exemptions) g
      (IsByKey-with_row (λ row. row.terms.row) code_cmp code_cmp_total exemption t.exemptions g.ordered.exemptions)
      (all_with_row (λ row. row.terms.row) code_cmp is_exemption_row exemption t.exemptions f1.1 g.forms.exemptions)
      (all_with_row (λ row. row.terms.row) code_cmp (λ row. not (breaks_span row.terms) && not (breaks_annex row.terms)) exemption t.exemptions
      (and_from (not (breaks_span exemption.terms)) (not (breaks_annex exemption.terms)) (not_from_false (breaks_span exemption.terms) span) (not_from_false (breaks_annex exemption.terms) annex)) g.exemptions)

  pub good-unexempt : (ticket row : List ℕ) → IsGood (with_edit_made t (Unexempt ticket row))
  unfolding with_edit_made
  good-unexempt ticket row =
      good-exemptions t (without_row (λ kept. kept.terms.row) code_cmp row t.exemptions) g
      (IsByKey-without_row (λ kept. kept.terms.row) code_cmp code_cmp_total row t.exemptions g.ordered.exemptions)
      (all_without_row (λ kept. kept.terms.row) code_cmp is_exemption_row row t.exemptions g.forms.exemptions)
      (all_without_row (λ kept. kept.terms.row) code_cmp (λ kept. not (breaks_span kept.terms) && not (breaks_annex kept.terms)) row t.exemptions g.exemptions)

  pub good-candidate : (ticket substance : List ℕ) (day : Date) → is_edit_in_form (Candidate ticket substance day) ≡ true → IsUnrefused t (Candidate ticket substance day) → IsGood (with_edit_made t (Candidate ticket substance day))
  unfolding with_edit_made is_edit_in_form unknown_substance
  good-candidate ticket substance day form u =
      let new : CandidateRow = record { substance = substance; day = day } in
      let f2 = and_parts (is_code ticket && is_code substance) (is_day day) form in
      let f1 = and_parts (is_code ticket) (is_code substance) f2.0 in
      good-candidates t (with_row (λ row. row.substance) code_cmp new t.candidates) g
      (IsByKey-with_row (λ row. row.substance) code_cmp code_cmp_total new t.candidates g.ordered.candidates)
      (all_with_row (λ row. row.substance) code_cmp is_candidate_row new t.candidates (and_from (is_code substance) (is_day day) f1.1 f2.1) g.forms.candidates)
      (all_with_row (λ row. row.substance) code_cmp (λ candidate. is_substance t candidate.substance) new t.candidates (refuse_unless _ _ u.unknown_substance) g.names.candidates)

  -- an entry of so many units, in range, of a kept product
  good-units : (year : ℕ) (product : List ℕ) (units : ℕ) → is_year year ≡ true → is_code product ≡ true → units ≤ UNITS_LIMIT → is_product t product ≡ true → IsGood (with_units t year product units)
  good-units year product zero y c low kept =
      good-shipments t (without_row shipment_key shipment_key_cmp (year, product) t.shipments) g
      (IsByKey-without_row shipment_key shipment_key_cmp shipment_key_cmp_total (year, product) t.shipments g.ordered.shipments)
      (all_without_row shipment_key shipment_key_cmp is_shipment_row (year, product) t.shipments g.forms.shipments)
      (all_without_row shipment_key shipment_key_cmp (λ shipment. is_product t shipment.product) (year, product) t.shipments g.names.shipments)
  good-units year product (suc fewer) y c low kept =
      let new : ShipmentRow = record { year = year; product = product; units = suc fewer } in
      let least : nat_le 1 (suc fewer) ≡ true = le-leb 1 (suc fewer) (omega arith) in
      let most : nat_le (suc fewer) UNITS_LIMIT ≡ true = le-leb (suc fewer) UNITS_LIMIT low in
      good-shipments t (with_row shipment_key shipment_key_cmp new t.shipments) g
      (IsByKey-with_row shipment_key shipment_key_cmp shipment_key_cmp_total new t.shipments g.ordered.shipments)
      (all_with_row shipment_key shipment_key_cmp is_shipment_row new t.shipments
      (and_from (is_year year && is_code product) (are_units (suc fewer)) (and_from (is_year year) (is_code product) y c) (and_from (nat_le 1 (suc fewer)) (nat_le (suc fewer) UNITS_LIMIT) least most)) g.forms.shipments)
      (all_with_row shipment_key shipment_key_cmp (λ shipment. is_product t shipment.product) new t.shipments kept g.names.shipments)

  pub good-ship : (ticket product : List ℕ) (year units : ℕ) → is_edit_in_form (Ship ticket product year units) ≡ true → IsUnrefused t (Ship ticket product year units) → IsGood (with_edit_made t (Ship ticket product year units))
  unfolding with_edit_made is_edit_in_form unknown_product units_too_large
  good-ship ticket product year units form u =
      let f3 = and_parts (is_code ticket && is_code product && is_year year) (are_units units) form in
      let f2 = and_parts (is_code ticket && is_code product) (is_year year) f3.0 in
      let f1 = and_parts (is_code ticket) (is_code product) f2.0 in
      let fits = ltb-false UNITS_LIMIT (units_of t year product + units) (refuse_if-none (nat_lt UNITS_LIMIT (units_of t year product + units)) _ u.units_too_large) in
      good-units year product (units_of t year product + units) f2.1 f1.1 fits (refuse_unless _ _ u.unknown_product)

  units_fit : (o : Option ShipmentRow) → (is_some o ≡ true → option_map_or (λ shipment. are_units shipment.units) o true ≡ true) → option_map_or (λ shipment. shipment.units) o 0 ≤ UNITS_LIMIT
  units_fit None h = omega arith
  units_fit (Some shipment) h =
      let parts = and_parts (nat_le 1 shipment.units) (nat_le shipment.units UNITS_LIMIT) (h refl) in
      leb-true shipment.units UNITS_LIMIT parts.1

  -- a kept entry is in range
  units_kept : (year : ℕ) (product : List ℕ) → units_of t year product ≤ UNITS_LIMIT
  units_kept year product =
      units_fit (shipment_row t year product)
      (λ kept. found_units t.shipments (each_from_all is_shipment_row t.shipments g.forms.shipments))
    where
      found_units : (rows : List ShipmentRow) → AllByRecursion (λ row. is_shipment_row row ≡ true) rows → option_map_or (λ shipment. are_units shipment.units) (row_of shipment_key shipment_key_cmp (year, product) rows) true ≡ true
      found_units [] a = refl
      found_units (row ∷ rows) a =
          elim (Rattle.std.proofs.Common.is_eq (shipment_key_cmp (shipment_key row) (year, product))) as (λ b. option_map_or (λ shipment. are_units shipment.units) (cond b (Some row) (row_of shipment_key shipment_key_cmp (year, product) rows)) true ≡ true) [
            | true ↦ (and_parts (is_year row.year && is_code row.product) (are_units row.units) a.0).1
            | false ↦ found_units rows a.1
          ]

  pub good-unship : (ticket product : List ℕ) (year units : ℕ) → is_edit_in_form (Unship ticket product year units) ≡ true → IsUnrefused t (Unship ticket product year units) → IsGood (with_edit_made t (Unship ticket product year units))
  unfolding with_edit_made is_edit_in_form unknown_product
  good-unship ticket product year units form u =
      let f3 = and_parts (is_code ticket && is_code product && is_year year) (are_units units) form in
      let f2 = and_parts (is_code ticket && is_code product) (is_year year) f3.0 in
      let f1 = and_parts (is_code ticket) (is_code product) f2.0 in
      good-units year product (units_of t year product - units) f2.1 f1.1 (omega (arith, units_kept year product)) (refuse_unless _ _ u.unknown_product)
