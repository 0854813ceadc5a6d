-- The code of a row has no TAB.
use Rattle.std.proofs.Common.{◌≡◌, ℕ, ◌<◌, ◌^◌, false, List, [], ◌∷◌, ◌++◌, refl, sym, subst, inl, inr, arith}
use Rattle.std.specs.Prelude.{◌==◌, codes, decimal, nat_le, nat_lt}
use Rattle.std.proofs.lemmas.Bool.{and_parts, ltb-true}
use Rattle.std.proofs.lemmas.List.Elements.{All-append, All-cons, All-nil}
use Rattle.desk_text.proofs.FieldLemmas.{IsField}
use Rattle.desk_text.proofs.Fields.{Lacks, are_without}
use Rattle.desk_model.specs.Rows.{pair_code, record_code, table_number}
use Rattle.desk_model.specs.declared.row.Row.{Row}
use Rattle.desk_model.specs.declared.row.Row.TheVariants.{Substance, Member, Material, Part, Line, Product, Exemption, Candidate, Shipment, Ticket}
use Rattle.desk_fields.specs.RowTexts.{IsRowInForm, IsTicketCode}
use Rattle.desk_fields.proofs.Declared.{exemption_codec}
use Rattle.desk_fields.proofs.RowFields.{code_lacks, number_lacks}
use Rattle.desk_fields.proofs.RowsRead.{candidate_row_codec, line_row_codec, material_row_codec, member_row_codec, part_row_codec, product_row_codec, shipment_row_codec, substance_row_codec}

lacks : (field : List ℕ) → IsField field → Lacks 9 field
lacks field is = (are_without 9 (omega arith) (field ∷ []) (is, tt)).0

one_byte : (b : ℕ) → (b == 9) ≡ false → Lacks 9 (b ∷ [])
one_byte b e = All-cons (λ x. (x == 9) ≡ false) b [] e (All-nil (λ x. (x == 9) ≡ false))

both : (a b : List ℕ) → Lacks 9 a → Lacks 9 b → Lacks 9 (a ++ b)
both a b first second = All-append (λ x. (x == 9) ≡ false) a b first second

pair : (a b : List ℕ) → IsField a → IsField b → Lacks 9 (pair_code a b)
pair a b first second = both (a ++ codes "/") b (both a (codes "/") (lacks a first) (one_byte 47 refl)) (lacks b second)

two_bytes : (a b : ℕ) → (a == 9) ≡ false → (b == 9) ≡ false → Lacks 9 (a ∷ b ∷ [])
two_bytes a b first second = All-cons (λ x. (x == 9) ≡ false) a (b ∷ []) first (one_byte b second)

ticket_lacks : (code : List ℕ) → IsTicketCode code → Lacks 9 code
ticket_lacks code (inl (ticket, good, e)) = subst (Lacks 9) (sym e) (both (codes "E:") ticket (two_bytes 69 58 refl refl) (code_lacks 9 refl ticket good))
ticket_lacks code (inr (supplier, number, good, some, e)) =
    let small : number < 2 ^ 64 = ltb-true number (2 ^ 64) (and_parts (nat_le 1 number) (nat_lt number (2 ^ 64)) some).1 in
    subst (Lacks 9) (sym e)
    (both (codes "D:" ++ supplier ++ codes ":") (decimal number)
    (both (codes "D:" ++ supplier) (codes ":") (both (codes "D:") supplier (two_bytes 68 58 refl refl) (code_lacks 9 refl supplier good)) (one_byte 58 refl))
    (number_lacks 9 refl number small))

pub code_lacks_tab : (row : Row) → IsRowInForm row → Lacks 9 (record_code row)
unfolding IsRowInForm record_code
code_lacks_tab (Substance row) form = lacks row.code (substance_row_codec.are row form).0
code_lacks_tab (Member row) form = let are = member_row_codec.are row form in pair row.substance _ are.0 are.1.0
code_lacks_tab (Material row) form = lacks row.code (material_row_codec.are row form).0
code_lacks_tab (Part row) form = lacks row.code (part_row_codec.are row form).0
code_lacks_tab (Line row) form = let are = line_row_codec.are row form in pair row.parent row.child are.0 are.1.0
code_lacks_tab (Product row) form = lacks row.part (product_row_codec.are row form).0
code_lacks_tab (Exemption row) form = lacks row.terms.row (exemption_codec.are row form).0
code_lacks_tab (Candidate row) form = lacks row.substance (candidate_row_codec.are row form).0
code_lacks_tab (Shipment row) form = let are = shipment_row_codec.are row form in pair (decimal row.year) row.product are.0 are.1.0
code_lacks_tab (Ticket row) form = ticket_lacks row.code form.code

pub table_small : (row : Row) → table_number row < 256
unfolding table_number
table_small (Substance row) = omega arith
table_small (Member row) = omega arith
table_small (Material row) = omega arith
table_small (Part row) = omega arith
table_small (Line row) = omega arith
table_small (Product row) = omega arith
table_small (Exemption row) = omega arith
table_small (Candidate row) = omega arith
table_small (Shipment row) = omega arith
table_small (Ticket row) = omega arith
