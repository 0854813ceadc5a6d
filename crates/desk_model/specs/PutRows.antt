-- Tables with a row put in, and with the row of a key taken out.
use Rattle.std.specs.Prelude.{ℕ, List}
use Rattle.desk_text.specs.Code.{code_cmp}
use Rattle.desk_law.specs.declared.rule.Rule.{Rule}
use Rattle.desk_law.specs.Rule.{rule_number}
use Rattle.desk_rows.specs.Rows.{with_row, without_row}
use Rattle.desk_model.specs.declared.row.Row.{Row}
use Rattle.desk_model.specs.declared.row.Row.TheVariants.{Substance, Member, Material, Part, Line, Product, Exemption, Candidate, Shipment, Ticket}
use Rattle.desk_model.specs.Lists.{Lists, line_key, line_key_cmp, member_key, member_key_cmp, shipment_key, shipment_key_cmp}

-- the tables with a row in its place, where it replaces the one of its key, if there is one
abbrev pub put_in : Row → Lists → Lists
put_in (Substance row) t = record t { substances = with_row (λ r. r.code) code_cmp row t.substances }
put_in (Member row) t = record t { members = with_row member_key member_key_cmp row t.members }
put_in (Material row) t = record t { materials = with_row (λ r. r.code) code_cmp row t.materials }
put_in (Part row) t = record t { parts = with_row (λ r. r.code) code_cmp row t.parts }
put_in (Line row) t = record t { lines = with_row line_key line_key_cmp row t.lines }
put_in (Product row) t = record t { products = with_row (λ r. r.part) code_cmp row t.products }
put_in (Exemption row) t = record t { exemptions = with_row (λ r. r.terms.row) code_cmp row t.exemptions }
put_in (Candidate row) t = record t { candidates = with_row (λ r. r.substance) code_cmp row t.candidates }
put_in (Shipment row) t = record t { shipments = with_row shipment_key shipment_key_cmp row t.shipments }
put_in (Ticket row) t = record t { tickets = with_row (λ r. r.code) code_cmp row t.tickets }

-- the tables where the substance is no member for the rule
abbrev pub without_member : Lists → List ℕ → Rule → Lists
without_member t substance rule = record t { members = without_row member_key member_key_cmp (substance, rule_number rule) t.members }

-- the tables without the line from the parent to the child
abbrev pub without_line : Lists → List ℕ → List ℕ → Lists
without_line t parent child = record t { lines = without_row line_key line_key_cmp (parent, child) t.lines }

-- the tables without the exemption row of the code
abbrev pub without_exemption : Lists → List ℕ → Lists
without_exemption t row = record t { exemptions = without_row (λ r. r.terms.row) code_cmp row t.exemptions }

-- the tables without the year's entry of the product
abbrev pub without_shipment : Lists → ℕ → List ℕ → Lists
without_shipment t year product = record t { shipments = without_row shipment_key shipment_key_cmp (year, product) t.shipments }
