-- Rows that keep what they have to by themselves are those of tables that hold together, and those of such tables do.
use Rattle.std.proofs.Common.{◌≡◌, ℕ, Bool, true, false, not, ◌&&◌, List, [], ◌∷◌, length, refl, sym, ap, ◌∙◌, subst, arith}
use Rattle.std.specs.Prelude.{nat_lt}
use Rattle.std.specs.List.{AllByRecursion, list_all}
use Rattle.std.proofs.lemmas.Bool.{and_from, and_parts, not-true, not_from_false}
use Rattle.desk_text.specs.Code.{same_code}
use Rattle.desk_model.specs.declared.limits.TheConstants.{LINES_OF_PARENT_LIMIT}
use Rattle.desk_model.specs.declared.rows.line.LineRow.{LineRow}
use Rattle.desk_model.specs.Content.{holds_too_much}
use Rattle.desk_model.specs.Forms.{is_candidate_row, is_exemption_row, is_line_row, is_material_row, is_member_row, is_part_row, is_product_row, is_shipment_row}
use Rattle.desk_model.specs.Lists.{IsOrdered, Lists, is_material, is_part, is_product, is_substance}
use Rattle.desk_model.specs.Terms.{breaks_annex, breaks_span}
use Rattle.desk_model.proofs.Elements.{all_from_each, any_none, each, each_both, each_filter, each_from_all, each_map, none_from_any}
use Rattle.desk_model.proofs.Kept.{kept_each, same_code-true}
use Rattle.desk_findings.specs.Bill.{are_children_right, are_codes_apart, has_right_child, is_acyclic}
use Rattle.desk_findings.specs.Reaches.{lines_of}
use Rattle.desk_findings.proofs.Children.{right_parent}
use Rattle.desk_history.specs.Fits.{DoRowsFit, fits_candidate, fits_exemption, fits_line, fits_material, fits_member, fits_part, fits_product, fits_shipment}
use Rattle.desk_history.specs.Limits.{has_too_many_lines}
use Rattle.desk_history.specs.Sound.{IsConsistent, IsTicketOfEdit, are_numbers}
use Rattle.desk_history.proofs.SoundClauses.{FormsKept, forms_from, forms_of, names_from}
use Rattle.desk_history.proofs.NamesKept.{NamesKept, names_of}

all_of : {R : Type 0} (fits test : R → Bool) (rows : List R) → ((row : R) → fits row ≡ true → test row ≡ true) → list_all fits rows ≡ true → list_all test rows ≡ true
all_of fits test rows f e = all_from_each test rows (each_map (λ row. fits row ≡ true) (λ row. test row ≡ true) f rows (each_from_all fits rows e))

all_both : {R : Type 0} (a b : R → Bool) (rows : List R) → list_all a rows ≡ true → list_all b rows ≡ true → list_all (λ row. a row && b row) rows ≡ true
all_both a b rows e f =
    all_from_each (λ row. a row && b row) rows
    (each_map (λ row. (a row ≡ true) × (b row ≡ true)) (λ row. (a row && b row) ≡ true) (λ row h. and_from (a row) (b row) h.0 h.1) rows
    (each_both (λ row. a row ≡ true) (λ row. b row ≡ true) rows (each_from_all a rows e) (each_from_all b rows f)))

three : (a b c : Bool) → (a && b && c) ≡ true → (a ≡ true) × (b ≡ true) × (c ≡ true)
three a b c e =
    let outer = and_parts (a && b) c e in
    let inner = and_parts a b outer.0 in
    (inner.0, inner.1, outer.1)

module _ (t : Lists) where
  -- a parent with too many lines would have one
  pub few_lines_of_each : AllByRecursion (λ line. nat_lt LINES_OF_PARENT_LIMIT (length (lines_of t.lines line.parent)) ≡ false) t.lines → has_too_many_lines t ≡ false
  few_lines_of_each few =
      any_none (λ part. nat_lt LINES_OF_PARENT_LIMIT (length (lines_of t.lines part.code))) t.parts
      (each (λ part. nat_lt LINES_OF_PARENT_LIMIT (length (lines_of t.lines part.code)) ≡ false)
      (λ part.
      fit part.code (lines_of t.lines part.code)
      (each_filter (λ line. nat_lt LINES_OF_PARENT_LIMIT (length (lines_of t.lines line.parent)) ≡ false) (λ line. same_code line.parent part.code) t.lines few) refl) t.parts)
    where
      fit : (code : List ℕ) (own : List LineRow) → AllByRecursion (λ line. (nat_lt LINES_OF_PARENT_LIMIT (length (lines_of t.lines line.parent)) ≡ false) × (same_code line.parent code ≡ true)) own → lines_of t.lines code ≡ own → nat_lt LINES_OF_PARENT_LIMIT (length own) ≡ false
      fit code [] a e = Rattle.std.proofs.lemmas.Bool.le-ltb LINES_OF_PARENT_LIMIT 0 (omega arith)
      fit code (line ∷ own) a e = ap (λ lines. nat_lt LINES_OF_PARENT_LIMIT (length lines)) (sym e) ∙ subst (λ c. nat_lt LINES_OF_PARENT_LIMIT (length (lines_of t.lines c)) ≡ false) (same_code-true line.parent code a.0.1) a.0.0

module _ (t : Lists) (fit : DoRowsFit t) where
  of_material : (row : _) → fits_material t row ≡ true → (is_material_row row ≡ true) × (list_all (λ held. is_substance t held.substance) row.substances ≡ true) × (not (holds_too_much row.mass row.substances) ≡ true)
  of_material row e = three (is_material_row row) (list_all (λ held. is_substance t held.substance) row.substances) (not (holds_too_much row.mass row.substances)) e

  of_line : (row : LineRow) → fits_line t row ≡ true → (is_line_row row ≡ true) × (has_right_child t row ≡ true) × (not (nat_lt LINES_OF_PARENT_LIMIT (length (lines_of t.lines row.parent))) ≡ true)
  of_line row e = three (is_line_row row) (has_right_child t row) (not (nat_lt LINES_OF_PARENT_LIMIT (length (lines_of t.lines row.parent)))) e

  of_exemption : (row : _) → fits_exemption t row ≡ true → (is_exemption_row row ≡ true) × (not (breaks_span row.terms) ≡ true) × (not (breaks_annex row.terms) ≡ true)
  of_exemption row e = three (is_exemption_row row) (not (breaks_span row.terms)) (not (breaks_annex row.terms)) e

  forms : FormsKept t
  forms = record {
    substances = fit.substances;
    members = all_of (fits_member t) is_member_row t.members (λ row e. (and_parts (is_member_row row) (is_substance t row.substance) e).0) fit.members;
    materials = all_of (fits_material t) is_material_row t.materials (λ row e. (of_material row e).0) fit.materials;
    parts = all_of (fits_part t) is_part_row t.parts (λ row e. (and_parts (is_part_row row) (not (is_material t row.code)) e).0) fit.parts;
    lines = all_of (fits_line t) is_line_row t.lines (λ row e. (of_line row e).0) fit.lines;
    products = all_of (fits_product t) is_product_row t.products (λ row e. (and_parts (is_product_row row) (is_part t row.part) e).0) fit.products;
    exemptions = all_of (fits_exemption t) is_exemption_row t.exemptions (λ row e. (of_exemption row e).0) fit.exemptions;
    candidates = all_of (fits_candidate t) is_candidate_row t.candidates (λ row e. (and_parts (is_candidate_row row) (is_substance t row.substance) e).0) fit.candidates;
    shipments = all_of (fits_shipment t) is_shipment_row t.shipments (λ row e. (and_parts (is_shipment_row row) (is_product t row.product) e).0) fit.shipments;
  }

  pub apart : are_codes_apart t ≡ true
  apart = all_of (fits_part t) (λ row. not (is_material t row.code)) t.parts (λ row e. (and_parts (is_part_row row) (not (is_material t row.code)) e).1) fit.parts

  pub children : are_children_right t ≡ true
  children = all_of (fits_line t) (has_right_child t) t.lines (λ row e. (of_line row e).1) fit.lines

  names : NamesKept t
  names = record {
    members = all_of (fits_member t) (λ row. is_substance t row.substance) t.members (λ row e. (and_parts (is_member_row row) (is_substance t row.substance) e).1) fit.members;
    materials = all_of (fits_material t) (λ row. list_all (λ held. is_substance t held.substance) row.substances) t.materials (λ row e. (of_material row e).1) fit.materials;
    lines = children;
    products = all_of (fits_product t) (λ row. is_part t row.part) t.products (λ row e. (and_parts (is_product_row row) (is_part t row.part) e).1) fit.products;
    candidates = all_of (fits_candidate t) (λ row. is_substance t row.substance) t.candidates (λ row e. (and_parts (is_candidate_row row) (is_substance t row.substance) e).1) fit.candidates;
    shipments = all_of (fits_shipment t) (λ row. is_product t row.product) t.shipments (λ row e. (and_parts (is_shipment_row row) (is_product t row.product) e).1) fit.shipments;
  }

  -- no parent has too many lines
  pub lines_fit : has_too_many_lines t ≡ false
  lines_fit =
      few_lines_of_each t
      (each_map (λ line. fits_line t line ≡ true) (λ line. nat_lt LINES_OF_PARENT_LIMIT (length (lines_of t.lines line.parent)) ≡ false)
      (λ line e. not-true (nat_lt LINES_OF_PARENT_LIMIT (length (lines_of t.lines line.parent))) (of_line line e).2) t.lines (each_from_all (fits_line t) t.lines fit.lines))

  -- the tables hold together, where they stand in order, the bill is acyclic and the tickets are numbered and those of edits
  pub consistent_if : IsOrdered t → is_acyclic t ≡ true → are_numbers t.tickets ≡ true → AllByRecursion IsTicketOfEdit t.tickets → IsConsistent t
  consistent_if ordered acyclic numbered edits = record {
    ordered = ordered;
    in_form = forms_from t forms;
    names_kept = names_from t names;
    codes_apart = apart;
    contents_fit = all_of (fits_material t) (λ row. not (holds_too_much row.mass row.substances)) t.materials (λ row e. (of_material row e).2) fit.materials;
    exemptions_fit =
        all_of (fits_exemption t) (λ row. not (breaks_span row.terms) && not (breaks_annex row.terms)) t.exemptions
        (λ row e. let parts = of_exemption row e in and_from (not (breaks_span row.terms)) (not (breaks_annex row.terms)) parts.1 parts.2) fit.exemptions;
    acyclic = acyclic;
    numbered = numbered;
    tickets_of_edits = edits;
  }

-- and back: rows of tables that hold together keep what they have to by themselves
module _ (t : Lists) (s : IsConsistent t) (few : has_too_many_lines t ≡ false) where
  kept_forms : FormsKept t
  kept_forms = forms_of t s.in_form

  kept_names : NamesKept t
  kept_names = names_of t s.names_kept

  few_lines : (code : List ℕ) → is_part t code ≡ true → nat_lt LINES_OF_PARENT_LIMIT (length (lines_of t.lines code)) ≡ false
  few_lines code kept =
      kept_each (λ row. row.code) (λ c. nat_lt LINES_OF_PARENT_LIMIT (length (lines_of t.lines c)) ≡ false) code t.parts
      (none_from_any (λ part. nat_lt LINES_OF_PARENT_LIMIT (length (lines_of t.lines part.code))) t.parts few) kept

  few_of_lines : list_all (λ row. not (nat_lt LINES_OF_PARENT_LIMIT (length (lines_of t.lines row.parent)))) t.lines ≡ true
  few_of_lines =
      all_of (has_right_child t) (λ row. not (nat_lt LINES_OF_PARENT_LIMIT (length (lines_of t.lines row.parent)))) t.lines
      (λ row e. not_from_false (nat_lt LINES_OF_PARENT_LIMIT (length (lines_of t.lines row.parent))) (few_lines row.parent (right_parent t row e))) kept_names.lines

  exemption_fits : (a b c : Bool) → (a && (b && c)) ≡ true → (a && b && c) ≡ true
  exemption_fits a b c e =
      let outer = and_parts a (b && c) e in
      let inner = and_parts b c outer.1 in
      and_from (a && b) c (and_from a b outer.0 inner.0) inner.1

  pub rows_fit : DoRowsFit t
  rows_fit = record {
    substances = kept_forms.substances;
    members = all_both is_member_row (λ row. is_substance t row.substance) t.members kept_forms.members kept_names.members;
    materials =
        all_both (λ row. is_material_row row && list_all (λ held. is_substance t held.substance) row.substances) (λ row. not (holds_too_much row.mass row.substances)) t.materials
        (all_both is_material_row (λ row. list_all (λ held. is_substance t held.substance) row.substances) t.materials kept_forms.materials kept_names.materials) s.contents_fit;
    parts = all_both is_part_row (λ row. not (is_material t row.code)) t.parts kept_forms.parts s.codes_apart;
    lines =
        all_both (λ row. is_line_row row && has_right_child t row) (λ row. not (nat_lt LINES_OF_PARENT_LIMIT (length (lines_of t.lines row.parent)))) t.lines
        (all_both is_line_row (has_right_child t) t.lines kept_forms.lines kept_names.lines) few_of_lines;
    products = all_both is_product_row (λ row. is_part t row.part) t.products kept_forms.products kept_names.products;
    exemptions =
        all_of (λ row. is_exemption_row row && (not (breaks_span row.terms) && not (breaks_annex row.terms))) (fits_exemption t) t.exemptions
        (λ row e. exemption_fits (is_exemption_row row) (not (breaks_span row.terms)) (not (breaks_annex row.terms)) e)
        (all_both is_exemption_row (λ row. not (breaks_span row.terms) && not (breaks_annex row.terms)) t.exemptions kept_forms.exemptions s.exemptions_fit);
    candidates = all_both is_candidate_row (λ row. is_substance t row.substance) t.candidates kept_forms.candidates kept_names.candidates;
    shipments = all_both is_shipment_row (λ row. is_product t row.product) t.shipments kept_forms.shipments kept_names.shipments;
  }
