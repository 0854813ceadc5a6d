-- Tables that make sense: what every desk's tables keep, from the start tables on through every accepted edit.
use Rattle.std.specs.Prelude.{◌≡◌, Bool, true, false, not, ◌&&◌, ◌==◌, List, [], None, count_by, length}
use Rattle.std.specs.List.{AllByRecursion, list_all, range_with_len}
use Rattle.desk_model.specs.declared.edit.Edit.{Edit}
use Rattle.desk_model.specs.declared.rows.ticket.TicketRow.{TicketRow}
use Rattle.desk_findings.specs.Bill.{are_children_right, are_codes_apart, do_contents_fit, is_acyclic}
use Rattle.desk_model.specs.EditText.{edit_text, ticket_code}
use Rattle.desk_model.specs.Forms.{is_substance_row, is_member_row, is_material_row, is_part_row, is_line_row}
use Rattle.desk_model.specs.Forms.{is_product_row, is_exemption_row, is_candidate_row, is_shipment_row, is_edit_in_form}
use Rattle.desk_model.specs.Lists.{Lists, IsOrdered, is_part, is_product, is_substance}
use Rattle.desk_model.specs.Terms.{breaks_annex, breaks_span}
use Rattle.desk_findings.specs.Totals.{has_too_many_findings, too_heavy_part, too_heavy_year}
use Rattle.desk_history.specs.Limits.{has_too_much_text, tables_over}

-- each value of tables 1 to 9 is of its form and in its range
unfoldable pub are_rows_in_form : Lists → Bool
are_rows_in_form t =
    list_all is_substance_row t.substances
    && list_all is_member_row t.members
    && list_all is_material_row t.materials
    && list_all is_part_row t.parts
    && list_all is_line_row t.lines
    && list_all is_product_row t.products
    && list_all is_exemption_row t.exemptions
    && list_all is_candidate_row t.candidates
    && list_all is_shipment_row t.shipments

-- each substance, material, part and product that a row names is kept, and each line's child is of the right sort
unfoldable pub are_names_kept : Lists → Bool
are_names_kept t =
    list_all (λ member. is_substance t member.substance) t.members
    && list_all (λ material. list_all (λ held. is_substance t held.substance) material.substances) t.materials
    && are_children_right t
    && list_all (λ product. is_part t product.part) t.products
    && list_all (λ candidate. is_substance t candidate.substance) t.candidates
    && list_all (λ shipment. is_product t shipment.product) t.shipments

-- the numbers 1 to n each stand once among the n tickets
abbrev pub are_numbers : List TicketRow → Bool
are_numbers tickets = list_all (λ n. count_by (λ ticket. ticket.number == n) tickets == 1) (range_with_len 1 (length tickets))

-- the ticket is that of an edit: of a declaration under the declaration's own code, of another edit under a sender's code
abbrev pub IsTicketOfEdit : TicketRow → Type 0
IsTicketOfEdit ticket =
    (edit : Edit) × (is_edit_in_form edit ≡ true) × (ticket.code ≡ ticket_code edit) × (ticket.text ≡ edit_text edit)

-- tables that hold together: each clause of soundness but the limits of tables and the bounds of sums
pub record IsConsistent (t : Lists) : Type 0 where
  -- each list stands in the order of its key, each key once
  pub ordered : IsOrdered t
  -- each value is of its form and in its range
  pub in_form : are_rows_in_form t ≡ true
  -- each code that a row names is kept, and a line's child is of the right sort
  pub names_kept : are_names_kept t ≡ true
  -- materials and parts share no code
  pub codes_apart : are_codes_apart t ≡ true
  -- a material's substance masses sum to at most its mass
  pub contents_fit : do_contents_fit t ≡ true
  -- no exemption row ends before it begins or has a floor over its cap, and those of Annex IV keep to its kinds
  pub exemptions_fit : list_all (λ row. not (breaks_span row.terms) && not (breaks_annex row.terms)) t.exemptions ≡ true
  -- no part reaches itself
  pub acyclic : is_acyclic t ≡ true
  -- ticket numbers are 1 to n, each once, and each ticket is that of an edit
  pub numbered : are_numbers t.tickets ≡ true
  pub tickets_of_edits : AllByRecursion IsTicketOfEdit t.tickets

-- each table keeps its limit, and so do the lines of one parent and the edit texts
pub record KeepsLimits (t : Lists) : Type 0 where
  pub tables_fit : tables_over t ≡ []
  pub texts_fit : has_too_much_text t ≡ false

-- no part's mass is 2^128 or more, all parts together have no more findings than the desk keeps, and no year's sum of units times
-- mass is 2^128 or more
pub record KeepsSums (t : Lists) : Type 0 where
  pub parts_fit : too_heavy_part t ≡ None
  pub findings_fit : has_too_many_findings t ≡ false
  pub years_fit : too_heavy_year t ≡ None

-- tables are sound where they hold together, keep their limits and keep their sums
pub record Sound (t : Lists) : Type 0 where
  pub consistent : IsConsistent t
  pub limits : KeepsLimits t
  pub sums : KeepsSums t
