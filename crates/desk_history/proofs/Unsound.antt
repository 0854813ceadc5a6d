-- An unsound desk has a row that breaks a clause, and a sound one has none.
use Rattle.std.proofs.Common.{◌≡◌, ℕ, zero, suc, ◌^◌, ◌<◌, Bool, true, false, not, ◌&&◌, ◌||◌, List, [], ◌∷◌, ◌++◌, length, map, sum_by, refl, sym, ap, ◌∙◌, subst, ◌⊎◌, inl, inr, ⊎_elim, arith}
use Rattle.std.specs.Prelude.{nat_le, nat_lt, ◌==◌, if◌then◌else◌}
use Rattle.std.specs.List.{AllByRecursion, Any, list_all, list_any}
use Rattle.std.proofs.lemmas.Bool.{and_from, and_parts, cases_Bool, ltb-false, not-false, not-true, not_from_false, or_left, or_right, true≢false, false≢true}
use Rattle.desk_text.specs.Code.{same_code}
use Rattle.desk_model.specs.declared.row.Row.{Row}
use Rattle.desk_model.specs.declared.row.Row.TheVariants.{Substance, Member, Material, Part, Line, Product, Exemption, Candidate, Shipment, Ticket}
use Rattle.desk_model.specs.declared.rows.part.PartRow.{PartRow}
use Rattle.desk_model.specs.declared.rows.line.LineRow.{LineRow}
use Rattle.desk_model.specs.declared.rows.ticket.TicketRow.{TicketRow}
use Rattle.desk_model.specs.Lists.{IsOrdered, Lists, is_part}
use Rattle.desk_model.specs.declared.table_name.TableName.{TableName}
use Rattle.desk_model.specs.declared.table_name.TableName.TheVariants.{Substances, Members, Materials, Parts, Lines, Products, Exemptions, Candidates, Shipments, Tickets}
use Rattle.desk_model.specs.Tables.{row_count, table_limit}
use Rattle.desk_model.specs.Rows.{record_code, rows_of, table_number}
use Rattle.desk_model.proofs.Anys.{any-append}
use Rattle.desk_model.proofs.Elements.{all_from_each, any_none, each, each_both, each_filter, each_from_all, each_map, each_of_map, none_from_any, sum_zero}
use Rattle.desk_model.proofs.Kept.{kept_each, same_code-true}
use Rattle.desk_findings.specs.Bill.{has_right_child}
use Rattle.desk_findings.specs.Findings.{finding_count, findings}
use Rattle.desk_findings.specs.Mass.{mass}
use Rattle.desk_findings.specs.Reaches.{is_or_reaches, lines_of, reaches}
use Rattle.desk_findings.specs.Totals.{has_too_many_findings, too_heavy_part, too_heavy_year, year_mass}
use Rattle.desk_findings.proofs.Bill.{by_line, has_parents, not_itself, reaches-step}
use Rattle.desk_findings.proofs.Children.{parents_kept, right_parent}
use Rattle.desk_history.specs.Breaches.{Breaks, IsBrokenAt, IsDecided, breaks_candidate, breaks_exemption, breaks_line, breaks_material, breaks_member, breaks_part, breaks_product, breaks_shipment, breaks_substance, breaks_ticket, is_number_once}
use Rattle.desk_history.specs.Fits.{DoRowsFit, fits_candidate, fits_exemption, fits_line, fits_material, fits_member, fits_part, fits_product, fits_shipment, fits_substance}
use Rattle.desk_history.specs.Limits.{has_too_much_text, is_overfull, tables_over}
use Rattle.desk_history.specs.Sound.{IsConsistent, IsTicketOfEdit, KeepsSums, Sound}
use Rattle.desk_history.proofs.TableLimits.{all_within, few_of_parents, none_over}
use Rattle.desk_history.proofs.FitRows.{children, consistent_if, lines_fit, rows_fit}
use Rattle.desk_history.proofs.SoundClauses.{parents_of}
use Rattle.desk_history.proofs.Masses.{first_none, none_first}
use Rattle.desk_history.proofs.Numbers.{are_numbers-once, each_number_once}

-- some element, and none
pub any_here : {X : Type 0} (P : X → Type 0) (x : X) (xs : List X) → P x → Any P (x ∷ xs)
any_here P x xs p = (0, x, omega arith, refl, p)

pub any_later : {X : Type 0} (P : X → Type 0) (x : X) (xs : List X) → Any P xs → Any P (x ∷ xs)
any_later P x xs a = (suc a.0, a.1, omega (arith, a.2), a.3, a.4)

any_not : {X : Type 0} (P : X → Type 0) (xs : List X) → AllByRecursion (λ x. P x → ⊥) xs → Any P xs → ⊥
any_not P [] none a = absurd (omega (arith, a.2))
any_not P (x ∷ xs) none a = at (any_not P xs none.1) a.0 a.1 a.2 a.3 a.4
  where
    at : (Any P xs → ⊥) → (k : ℕ) (y : _) → k < length (x ∷ xs) → Rattle.std.specs.Prelude.slice_index_or (x ∷ xs) k y ≡ y → P y → ⊥
    at later zero y within here p = none.0 (subst P (sym here) p)
    at later (suc k) y within here p = later (k, y, omega (arith, within), here, p)

any_left : {X : Type 0} (P : X → Type 0) (xs ys : List X) → Any P xs → Any P (xs ++ ys)
any_left P [] ys a = absurd (omega (arith, a.2))
any_left P (x ∷ xs) ys a = at (any_left P xs ys) a.0 a.1 a.2 a.3 a.4
  where
    at : (Any P xs → Any P (xs ++ ys)) → (k : ℕ) (y : _) → k < length (x ∷ xs) → Rattle.std.specs.Prelude.slice_index_or (x ∷ xs) k y ≡ y → P y → Any P (x ∷ (xs ++ ys))
    at later zero y within here p = any_here P x (xs ++ ys) (subst P (sym here) p)
    at later (suc k) y within here p = any_later P x (xs ++ ys) (later (k, y, omega (arith, within), here, p))

any_right : {X : Type 0} (P : X → Type 0) (xs ys : List X) → Any P ys → Any P (xs ++ ys)
any_right P [] ys a = a
any_right P (x ∷ xs) ys a = any_later P x (xs ++ ys) (any_right P xs ys a)

-- an element that passes a test, with its image
pub any_passing : {X Y : Type 0} (P : Y → Type 0) (f : X → Y) (test : X → Bool) (xs : List X) → ((x : X) → test x ≡ true → P (f x)) → list_any test xs ≡ true → Any P (map f xs)
any_passing P f test [] given e = absurd (false≢true e)
any_passing P f test (x ∷ xs) given e =
    elim (cases_Bool (test x)) [
      | inl here ↦ any_here P (f x) (map f xs) (given x here)
      | inr other ↦ any_later P (f x) (map f xs) (any_passing P f test xs given (rw other at e))
    ]

or_both : (a b : Bool) → (a || b) ≡ false → (a ≡ false) × (b ≡ false)
or_both true b e = absurd (true≢false e)
or_both false b e = (refl, e)

or_none : (a b : Bool) → a ≡ false → b ≡ false → (a || b) ≡ false
or_none true b e f = absurd (true≢false e)
or_none false b e f = f

module _ (t : Lists) where
  -- a broken row of each table is one of all rows
  module _ (P : Row → Type 0) where
    rows1 : List Row
    rows1 = map Substance t.substances

    rows2 : List Row
    rows2 = rows1 ++ map Member t.members

    rows3 : List Row
    rows3 = rows2 ++ map Material t.materials

    rows4 : List Row
    rows4 = rows3 ++ map Part t.parts

    rows5 : List Row
    rows5 = rows4 ++ map Line t.lines

    rows6 : List Row
    rows6 = rows5 ++ map Product t.products

    rows7 : List Row
    rows7 = rows6 ++ map Exemption t.exemptions

    rows8 : List Row
    rows8 = rows7 ++ map Candidate t.candidates

    rows9 : List Row
    rows9 = rows8 ++ map Shipment t.shipments

    unfolding_rows : rows_of t ≡ rows9 ++ map Ticket t.tickets
    unfolding rows_of rows1 rows2 rows3 rows4 rows5 rows6 rows7 rows8 rows9
    unfolding_rows = refl

    from9 : Any P rows9 → Any P (rows_of t)
    from9 a = subst (Any P) (sym unfolding_rows) (any_left P rows9 (map Ticket t.tickets) a)

    from8 : Any P rows8 → Any P (rows_of t)
    unfolding rows9
    from8 a = from9 (any_left P rows8 (map Shipment t.shipments) a)

    from7 : Any P rows7 → Any P (rows_of t)
    unfolding rows8
    from7 a = from8 (any_left P rows7 (map Candidate t.candidates) a)

    from6 : Any P rows6 → Any P (rows_of t)
    unfolding rows7
    from6 a = from7 (any_left P rows6 (map Exemption t.exemptions) a)

    from5 : Any P rows5 → Any P (rows_of t)
    unfolding rows6
    from5 a = from6 (any_left P rows5 (map Product t.products) a)

    from4 : Any P rows4 → Any P (rows_of t)
    unfolding rows5
    from4 a = from5 (any_left P rows4 (map Line t.lines) a)

    from3 : Any P rows3 → Any P (rows_of t)
    unfolding rows4
    from3 a = from4 (any_left P rows3 (map Part t.parts) a)

    from2 : Any P rows2 → Any P (rows_of t)
    unfolding rows3
    from2 a = from3 (any_left P rows2 (map Material t.materials) a)

    pub in_substances : Any P (map Substance t.substances) → Any P (rows_of t)
    unfolding rows1 rows2
    in_substances a = from2 (any_left P (map Substance t.substances) (map Member t.members) a)

    pub in_members : Any P (map Member t.members) → Any P (rows_of t)
    unfolding rows2
    in_members a = from2 (any_right P rows1 (map Member t.members) a)

    pub in_materials : Any P (map Material t.materials) → Any P (rows_of t)
    unfolding rows3
    in_materials a = from3 (any_right P rows2 (map Material t.materials) a)

    pub in_parts : Any P (map Part t.parts) → Any P (rows_of t)
    unfolding rows4
    in_parts a = from4 (any_right P rows3 (map Part t.parts) a)

    pub in_lines : Any P (map Line t.lines) → Any P (rows_of t)
    unfolding rows5
    in_lines a = from5 (any_right P rows4 (map Line t.lines) a)

    pub in_products : Any P (map Product t.products) → Any P (rows_of t)
    unfolding rows6
    in_products a = from6 (any_right P rows5 (map Product t.products) a)

    pub in_exemptions : Any P (map Exemption t.exemptions) → Any P (rows_of t)
    unfolding rows7
    in_exemptions a = from7 (any_right P rows6 (map Exemption t.exemptions) a)

    pub in_candidates : Any P (map Candidate t.candidates) → Any P (rows_of t)
    unfolding rows8
    in_candidates a = from8 (any_right P rows7 (map Candidate t.candidates) a)

    pub in_shipments : Any P (map Shipment t.shipments) → Any P (rows_of t)
    unfolding rows9
    in_shipments a = from9 (any_right P rows8 (map Shipment t.shipments) a)

    pub in_tickets : Any P (map Ticket t.tickets) → Any P (rows_of t)
    in_tickets a = subst (Any P) (sym unfolding_rows) (any_right P rows9 (map Ticket t.tickets) a)

    -- what holds of each row of each table holds of each row
    each_append : (xs ys : List Row) → AllByRecursion P xs → AllByRecursion P ys → AllByRecursion P (xs ++ ys)
    each_append [] ys a b = b
    each_append (x ∷ xs) ys a b = (a.0, each_append xs ys a.1 b)

  -- a table of which no row tells that it is overfull isn't
  keeps_limit : {R : Type 0} (table : TableName) (rows : List R) → row_count t table ≡ length rows → AllByRecursion (λ row. is_overfull t table ≡ false) rows → is_overfull t table ≡ false
  keeps_limit table [] same none = ap (nat_lt (table_limit table)) same ∙ Rattle.std.proofs.lemmas.Bool.le-ltb (table_limit table) 0 (omega arith)
  keeps_limit table (row ∷ rows) same none = none.0

  -- no tickets have no text, and no findings are few
  pub no_text : t.tickets ≡ [] → has_too_much_text t ≡ false
  unfolding has_too_much_text
  no_text e = rw e refl

  few_findings : sum_by (λ part. length (findings t part.code)) t.parts ≡ 0 → has_too_many_findings t ≡ false
  unfolding has_too_many_findings finding_count
  few_findings e = rw e refl

  -- rows that break nothing
  none_of : {R : Type 0} (test : R → Bool) (rows : List R) → list_any test rows ≡ false → AllByRecursion (λ row. test row ≡ false) rows
  none_of test rows e = none_from_any test rows e

  record NothingBroken : Type 0 where
    substances : AllByRecursion (λ row. breaks_substance t row ≡ false) t.substances
    members : AllByRecursion (λ row. breaks_member t row ≡ false) t.members
    materials : AllByRecursion (λ row. breaks_material t row ≡ false) t.materials
    parts : AllByRecursion (λ row. breaks_part t row ≡ false) t.parts
    lines : AllByRecursion (λ row. breaks_line t row ≡ false) t.lines
    products : AllByRecursion (λ row. breaks_product t row ≡ false) t.products
    exemptions : AllByRecursion (λ row. breaks_exemption t row ≡ false) t.exemptions
    candidates : AllByRecursion (λ row. breaks_candidate t row ≡ false) t.candidates
    shipments : AllByRecursion (λ row. breaks_shipment t row ≡ false) t.shipments
    tickets : AllByRecursion (λ row. breaks_ticket t row ≡ false) t.tickets
    edits : AllByRecursion IsTicketOfEdit t.tickets

  module _ (ordered : IsOrdered t) (none : NothingBroken) where
    passing : {R : Type 0} (breaks test : R → Bool) (rows : List R) → ((row : R) → breaks row ≡ false → test row ≡ true) → AllByRecursion (λ row. breaks row ≡ false) rows → list_all test rows ≡ true
    passing breaks test rows f a = all_from_each test rows (each_map (λ row. breaks row ≡ false) (λ row. test row ≡ true) f rows a)

    first_of_two : (a b : Bool) → (not a || b) ≡ false → (a ≡ true) × (b ≡ false)
    first_of_two a b e =
        let parts = or_both (not a) b e in
        (not-false a parts.0, parts.1)

    first_of_three : (a b c : Bool) → (not a || b || c) ≡ false → (a ≡ true) × (b ≡ false) × (c ≡ false)
    first_of_three a b c e =
        let outer = or_both (not a || b) c e in
        let inner = first_of_two a b outer.0 in
        (inner.0, inner.1, outer.1)

    first_of_four : (a b c d : Bool) → (not a || b || c || d) ≡ false → (a ≡ true) × (b ≡ false) × (c ≡ false) × (d ≡ false)
    first_of_four a b c d e =
        let outer = or_both (not a || b || c) d e in
        let inner = first_of_three a b c outer.0 in
        (inner.0, inner.1, inner.2, outer.1)

    of_part : (row : _) → breaks_part t row ≡ false → (fits_part t row ≡ true) × (nat_le (2 ^ 128) (mass t row.code) ≡ false) × ((has_too_many_findings t && nat_lt 0 (length (findings t row.code))) ≡ false) × (is_overfull t Parts ≡ false)
    of_part row e = first_of_four (fits_part t row) (nat_le (2 ^ 128) (mass t row.code)) (has_too_many_findings t && nat_lt 0 (length (findings t row.code))) (is_overfull t Parts) e

    of_line : (row : _) → breaks_line t row ≡ false → (fits_line t row ≡ true) × (is_or_reaches t row.child row.parent ≡ false) × (is_overfull t Lines ≡ false)
    of_line row e = first_of_three (fits_line t row) (is_or_reaches t row.child row.parent) (is_overfull t Lines) e

    of_shipment : (row : _) → breaks_shipment t row ≡ false → (fits_shipment t row ≡ true) × (nat_le (2 ^ 128) (year_mass t row.year) ≡ false) × (is_overfull t Shipments ≡ false)
    of_shipment row e = first_of_three (fits_shipment t row) (nat_le (2 ^ 128) (year_mass t row.year)) (is_overfull t Shipments) e

    of_ticket : (row : _) → breaks_ticket t row ≡ false → (is_number_once t.tickets row.number ≡ true) × (has_too_much_text t ≡ false) × (is_overfull t Tickets ≡ false)
    of_ticket row e = first_of_three (is_number_once t.tickets row.number) (has_too_much_text t) (is_overfull t Tickets) e

    fitting : DoRowsFit t
    fitting = record {
      substances = passing (breaks_substance t) (fits_substance t) t.substances (λ row e. (first_of_two (fits_substance t row) (is_overfull t Substances) e).0) none.substances;
      members = passing (breaks_member t) (fits_member t) t.members (λ row e. (first_of_two (fits_member t row) (is_overfull t Members) e).0) none.members;
      materials = passing (breaks_material t) (fits_material t) t.materials (λ row e. (first_of_two (fits_material t row) (is_overfull t Materials) e).0) none.materials;
      parts = passing (breaks_part t) (fits_part t) t.parts (λ row e. (of_part row e).0) none.parts;
      lines = passing (breaks_line t) (fits_line t) t.lines (λ row e. (of_line row e).0) none.lines;
      products = passing (breaks_product t) (fits_product t) t.products (λ row e. (first_of_two (fits_product t row) (is_overfull t Products) e).0) none.products;
      exemptions = passing (breaks_exemption t) (fits_exemption t) t.exemptions (λ row e. (first_of_two (fits_exemption t row) (is_overfull t Exemptions) e).0) none.exemptions;
      candidates = passing (breaks_candidate t) (fits_candidate t) t.candidates (λ row e. (first_of_two (fits_candidate t row) (is_overfull t Candidates) e).0) none.candidates;
      shipments = passing (breaks_shipment t) (fits_shipment t) t.shipments (λ row e. (of_shipment row e).0) none.shipments;
    }

    -- a part that reached itself would have a line on the cycle
    no_cycle : (code : List ℕ) → reaches t code code ≡ false
    no_cycle code =
        reaches-step t (has_parents t (parents_kept t (children t fitting))) code code
        ∙ any_none (λ line. is_or_reaches t line.child code) (lines_of t.lines code)
        (each_map (λ line. (is_or_reaches t line.child line.parent ≡ false) × (same_code line.parent code ≡ true)) (λ line. is_or_reaches t line.child code ≡ false)
        (λ line h. subst (λ c. is_or_reaches t line.child c ≡ false) (same_code-true line.parent code h.1) h.0) (lines_of t.lines code)
        (each_filter (λ line. is_or_reaches t line.child line.parent ≡ false) (λ line. same_code line.parent code) t.lines
        (each_map (λ line. breaks_line t line ≡ false) (λ line. is_or_reaches t line.child line.parent ≡ false) (λ line e. (of_line line e).1) t.lines none.lines)))

    consistent : IsConsistent t
    consistent =
        consistent_if t fitting ordered
        (all_from_each (λ part. not (reaches t part.code part.code)) t.parts (each (λ part. not (reaches t part.code part.code) ≡ true) (λ part. not_from_false (reaches t part.code part.code) (no_cycle part.code)) t.parts))
        (are_numbers-once t.tickets (each_map (λ row. breaks_ticket t row ≡ false) (λ row. is_number_once t.tickets row.number ≡ true) (λ row e. (of_ticket row e).0) t.tickets none.tickets))
        none.edits

    none_overfull : (table : TableName) → is_overfull t table ≡ false
    none_overfull Substances = keeps_limit Substances t.substances refl (each_map (λ row. breaks_substance t row ≡ false) (λ row. is_overfull t Substances ≡ false) (λ row e. (first_of_two (fits_substance t row) (is_overfull t Substances) e).1) t.substances none.substances)
    none_overfull Members = keeps_limit Members t.members refl (each_map (λ row. breaks_member t row ≡ false) (λ row. is_overfull t Members ≡ false) (λ row e. (first_of_two (fits_member t row) (is_overfull t Members) e).1) t.members none.members)
    none_overfull Materials = keeps_limit Materials t.materials refl (each_map (λ row. breaks_material t row ≡ false) (λ row. is_overfull t Materials ≡ false) (λ row e. (first_of_two (fits_material t row) (is_overfull t Materials) e).1) t.materials none.materials)
    none_overfull Parts = keeps_limit Parts t.parts refl (each_map (λ row. breaks_part t row ≡ false) (λ row. is_overfull t Parts ≡ false) (λ row e. (of_part row e).3) t.parts none.parts)
    none_overfull Lines = keeps_limit Lines t.lines refl (each_map (λ row. breaks_line t row ≡ false) (λ row. is_overfull t Lines ≡ false) (λ row e. (of_line row e).2) t.lines none.lines)
    none_overfull Products = keeps_limit Products t.products refl (each_map (λ row. breaks_product t row ≡ false) (λ row. is_overfull t Products ≡ false) (λ row e. (first_of_two (fits_product t row) (is_overfull t Products) e).1) t.products none.products)
    none_overfull Exemptions = keeps_limit Exemptions t.exemptions refl (each_map (λ row. breaks_exemption t row ≡ false) (λ row. is_overfull t Exemptions ≡ false) (λ row e. (first_of_two (fits_exemption t row) (is_overfull t Exemptions) e).1) t.exemptions none.exemptions)
    none_overfull Candidates = keeps_limit Candidates t.candidates refl (each_map (λ row. breaks_candidate t row ≡ false) (λ row. is_overfull t Candidates ≡ false) (λ row e. (first_of_two (fits_candidate t row) (is_overfull t Candidates) e).1) t.candidates none.candidates)
    none_overfull Shipments = keeps_limit Shipments t.shipments refl (each_map (λ row. breaks_shipment t row ≡ false) (λ row. is_overfull t Shipments ≡ false) (λ row e. (of_shipment row e).2) t.shipments none.shipments)
    none_overfull Tickets = keeps_limit Tickets t.tickets refl (each_map (λ row. breaks_ticket t row ≡ false) (λ row. is_overfull t Tickets ≡ false) (λ row e. (of_ticket row e).2) t.tickets none.tickets)

    nothing_over : tables_over t ≡ []
    nothing_over = all_within t none_overfull (lines_fit t fitting)

    texts_fit : has_too_much_text t ≡ false
    texts_fit = by_tickets t.tickets refl (each_map (λ row. breaks_ticket t row ≡ false) (λ row. has_too_much_text t ≡ false) (λ row e. (of_ticket row e).1) t.tickets none.tickets)
      where
        by_tickets : (tickets : List TicketRow) → t.tickets ≡ tickets → AllByRecursion (λ row. has_too_much_text t ≡ false) tickets → has_too_much_text t ≡ false
        by_tickets [] e a = no_text e
        by_tickets (ticket ∷ tickets) e a = a.0

    findings_fit : has_too_many_findings t ≡ false
    findings_fit = elim (cases_Bool (has_too_many_findings t)) [
      | inl over ↦ absurd (true≢false (sym over ∙ no_findings (each_map (λ row. breaks_part t row ≡ false) (λ row. length (findings t row.code) ≡ 0) (λ row e. found_none row over (of_part row e).2) t.parts none.parts)))
      | inr within ↦ within
    ]
      where
        found_none : (row : PartRow) → has_too_many_findings t ≡ true → (has_too_many_findings t && nat_lt 0 (length (findings t row.code))) ≡ false → length (findings t row.code) ≡ 0
        found_none row over e =
            let none : nat_lt 0 (length (findings t row.code)) ≡ false = rw over at e in
            omega (arith, ltb-false 0 (length (findings t row.code)) none)

        no_findings : AllByRecursion (λ row. length (findings t row.code) ≡ 0) t.parts → has_too_many_findings t ≡ false
        no_findings a = few_findings (sum_zero (λ part. length (findings t part.code)) t.parts a)

    sums : KeepsSums t
    unfolding too_heavy_part too_heavy_year
    sums = record {
      parts_fit = first_none (λ part. part.code) (λ part. nat_le (2 ^ 128) (mass t part.code)) t.parts (each_map (λ row. breaks_part t row ≡ false) (λ row. nat_le (2 ^ 128) (mass t row.code) ≡ false) (λ row e. (of_part row e).1) t.parts none.parts);
      findings_fit = findings_fit;
      years_fit = first_none (λ row. row.year) (λ row. nat_le (2 ^ 128) (year_mass t row.year)) t.shipments (each_map (λ row. breaks_shipment t row ≡ false) (λ row. nat_le (2 ^ 128) (year_mass t row.year) ≡ false) (λ row e. (of_shipment row e).1) t.shipments none.shipments);
    }

    sound : Sound t
    sound = record { consistent = consistent; limits = record { tables_fit = nothing_over; texts_fit = texts_fit }; sums = sums }

and_then : {A B C : Type 0} → A ⊎ C → (A → B ⊎ C) → B ⊎ C
and_then (inl a) f = f a
and_then (inr c) f = inr c

module _ (t : Lists) where
  either_table : {R : Type 0} (breaks : R → Bool) (rows : List R) (wrap : R → Row) → (Any (Breaks t) (map wrap rows) → Any (Breaks t) (rows_of t)) → ((row : R) → breaks row ≡ true → Breaks t (wrap row)) → AllByRecursion (λ row. breaks row ≡ false) rows ⊎ Any (Breaks t) (rows_of t)
  either_table breaks rows wrap inject given =
      elim (cases_Bool (list_any breaks rows)) [
        | inl some ↦ inr (inject (any_passing (Breaks t) wrap breaks rows given some))
        | inr none ↦ inl (none_from_any breaks rows none)
      ]

  -- a ticket that is that of no edit is told
  either_edit : (tickets : List TicketRow) → AllByRecursion IsDecided tickets → AllByRecursion IsTicketOfEdit tickets ⊎ Any (Breaks t) (map Ticket tickets)
  either_edit [] d = inl tt
  either_edit (ticket ∷ tickets) d =
      elim d.0 [
        | inl edit ↦
            elim (either_edit tickets d.1) [ inl rest ↦ inl (edit, rest) | inr broken ↦ inr (any_later (Breaks t) (Ticket ticket) (map Ticket tickets) broken) ]
        | inr no_edit ↦ inr (any_here (Breaks t) (Ticket ticket) (map Ticket tickets) (inr no_edit))
      ]

  sound_or_broken : IsOrdered t → AllByRecursion IsDecided t.tickets → Sound t ⊎ Any (Breaks t) (rows_of t)
  sound_or_broken ordered decided =
      and_then (either_table (breaks_substance t) t.substances Substance (in_substances t (Breaks t)) (λ row e. e))
      (λ substances. and_then (either_table (breaks_member t) t.members Member (in_members t (Breaks t)) (λ row e. e))
      (λ members. and_then (either_table (breaks_material t) t.materials Material (in_materials t (Breaks t)) (λ row e. e))
      (λ materials. and_then (either_table (breaks_part t) t.parts Part (in_parts t (Breaks t)) (λ row e. e))
      (λ parts. and_then (either_table (breaks_line t) t.lines Line (in_lines t (Breaks t)) (λ row e. e))
      (λ lines. and_then (either_table (breaks_product t) t.products Product (in_products t (Breaks t)) (λ row e. e))
      (λ products. and_then (either_table (breaks_exemption t) t.exemptions Exemption (in_exemptions t (Breaks t)) (λ row e. e))
      (λ exemptions. and_then (either_table (breaks_candidate t) t.candidates Candidate (in_candidates t (Breaks t)) (λ row e. e))
      (λ candidates. and_then (either_table (breaks_shipment t) t.shipments Shipment (in_shipments t (Breaks t)) (λ row e. e))
      (λ shipments. and_then (either_table (breaks_ticket t) t.tickets Ticket (in_tickets t (Breaks t)) (λ row e. inl e))
      (λ tickets.
      ⊎_elim
      (λ edits.
      inl (sound t ordered (record {
        substances = substances;
        members = members;
        materials = materials;
        parts = parts;
        lines = lines;
        products = products;
        exemptions = exemptions;
        candidates = candidates;
        shipments = shipments;
        tickets = tickets;
        edits = edits;
      })))
      (λ broken. inr (in_tickets t (Breaks t) broken))
      (either_edit t.tickets decided)))))))))))

  named : Any (Breaks t) (rows_of t) → (table : ℕ) × (code : List ℕ) × IsBrokenAt t table code
  named a = (table_number a.1, record_code a.1, (a.0, a.1, a.2, a.3, (refl, refl, a.4)))

  pub found : IsOrdered t → AllByRecursion IsDecided t.tickets → Sound t ⊎ ((table : ℕ) × (code : List ℕ) × IsBrokenAt t table code)
  found ordered decided = elim (sound_or_broken ordered decided) [ inl sound ↦ inl sound | inr broken ↦ inr (named broken) ]

-- a part that is too heavy breaks a clause
pub heavy_breaks : (t : Lists) (row : PartRow) → nat_le (2 ^ 128) (mass t row.code) ≡ true → breaks_part t row ≡ true
heavy_breaks t row heavy =
    let found = has_too_many_findings t && nat_lt 0 (length (findings t row.code)) in
    or_left (not (fits_part t row) || nat_le (2 ^ 128) (mass t row.code) || found) (is_overfull t Parts)
    (or_left (not (fits_part t row) || nat_le (2 ^ 128) (mass t row.code)) found (or_right (not (fits_part t row)) (nat_le (2 ^ 128) (mass t row.code)) heavy))

-- sound tables have no row that breaks anything
module _ (t : Lists) (s : Sound t) where
  within : (table : TableName) → is_overfull t table ≡ false
  within = none_over t s.limits.tables_fit

  not_broken : (a : Bool) → a ≡ true → not a ≡ false
  not_broken true e = refl
  not_broken false e = absurd (false≢true e)

  fitting_rows : DoRowsFit t
  fitting_rows = rows_fit t s.consistent (few_of_parents t s.limits.tables_fit)

  only_fits : {R : Type 0} (table : TableName) (fits : R → Bool) (rows : List R) → list_all fits rows ≡ true → AllByRecursion (λ row. (not (fits row) || is_overfull t table) ≡ false) rows
  only_fits table fits rows all =
      each_map (λ row. fits row ≡ true) (λ row. (not (fits row) || is_overfull t table) ≡ false)
      (λ row fit. or_none (not (fits row)) (is_overfull t table) (not_broken (fits row) fit) (within table)) rows (each_from_all fits rows all)

  fits_and_more : {R : Type 0} (table : TableName) (fits more : R → Bool) (rows : List R) → list_all fits rows ≡ true → AllByRecursion (λ row. more row ≡ false) rows → AllByRecursion (λ row. (not (fits row) || more row || is_overfull t table) ≡ false) rows
  fits_and_more table fits more rows all none =
      each_map (λ row. (fits row ≡ true) × (more row ≡ false)) (λ row. (not (fits row) || more row || is_overfull t table) ≡ false)
      (λ row h. or_none (not (fits row) || more row) (is_overfull t table) (or_none (not (fits row)) (more row) (not_broken (fits row) h.0) h.1) (within table)) rows
      (each_both (λ row. fits row ≡ true) (λ row. more row ≡ false) rows (each_from_all fits rows all) none)

  substances_kept : AllByRecursion (λ row. breaks_substance t row ≡ false) t.substances
  substances_kept = only_fits Substances (fits_substance t) t.substances fitting_rows.substances

  members_kept : AllByRecursion (λ row. breaks_member t row ≡ false) t.members
  members_kept = only_fits Members (fits_member t) t.members fitting_rows.members

  materials_kept : AllByRecursion (λ row. breaks_material t row ≡ false) t.materials
  materials_kept = only_fits Materials (fits_material t) t.materials fitting_rows.materials

  light : AllByRecursion (λ row. nat_le (2 ^ 128) (mass t row.code) ≡ false) t.parts
  unfolding too_heavy_part
  light = none_first (λ part. part.code) (λ part. nat_le (2 ^ 128) (mass t part.code)) t.parts s.sums.parts_fit

  light_years : AllByRecursion (λ row. nat_le (2 ^ 128) (year_mass t row.year) ≡ false) t.shipments
  unfolding too_heavy_year
  light_years = none_first (λ row. row.year) (λ row. nat_le (2 ^ 128) (year_mass t row.year)) t.shipments s.sums.years_fit

  few : (row : PartRow) → (has_too_many_findings t && nat_lt 0 (length (findings t row.code))) ≡ false
  few row = ap (λ b. b && nat_lt 0 (length (findings t row.code))) s.sums.findings_fit

  parts_kept : AllByRecursion (λ row. breaks_part t row ≡ false) t.parts
  parts_kept =
      each_map (λ row. (fits_part t row ≡ true) × (nat_le (2 ^ 128) (mass t row.code) ≡ false)) (λ row. breaks_part t row ≡ false)
      (λ row h.
      or_none (not (fits_part t row) || nat_le (2 ^ 128) (mass t row.code) || has_too_many_findings t && nat_lt 0 (length (findings t row.code))) (is_overfull t Parts)
      (or_none (not (fits_part t row) || nat_le (2 ^ 128) (mass t row.code)) (has_too_many_findings t && nat_lt 0 (length (findings t row.code)))
      (or_none (not (fits_part t row)) (nat_le (2 ^ 128) (mass t row.code)) (not_broken (fits_part t row) h.0) h.1) (few row)) (within Parts)) t.parts
      (each_both (λ row. fits_part t row ≡ true) (λ row. nat_le (2 ^ 128) (mass t row.code) ≡ false) t.parts (each_from_all (fits_part t) t.parts fitting_rows.parts) light)

  on_cycle : (line : LineRow) → ((target : List ℕ) → is_or_reaches t line.child target ≡ true → reaches t line.parent target ≡ true) → is_part t line.parent ≡ true → is_or_reaches t line.child line.parent ≡ false
  on_cycle line by kept =
      elim (cases_Bool (is_or_reaches t line.child line.parent)) [
        | inl some ↦ absurd (true≢false (sym (by line.parent some) ∙ not_itself t (parents_of t s.consistent) s.consistent.acyclic line.parent kept))
        | inr none ↦ none
      ]

  no_cycles : AllByRecursion (λ row. is_or_reaches t row.child row.parent ≡ false) t.lines
  no_cycles =
      each_map (λ row. (has_right_child t row ≡ true) × ((target : List ℕ) → is_or_reaches t row.child target ≡ true → reaches t row.parent target ≡ true)) (λ row. is_or_reaches t row.child row.parent ≡ false)
      (λ row h. on_cycle row h.1 (right_parent t row h.0)) t.lines
      (each_both (λ row. has_right_child t row ≡ true) (λ row. (target : List ℕ) → is_or_reaches t row.child target ≡ true → reaches t row.parent target ≡ true) t.lines
      (each_from_all (has_right_child t) t.lines (children t fitting_rows)) (by_line t (parents_of t s.consistent)))

  lines_kept : AllByRecursion (λ row. breaks_line t row ≡ false) t.lines
  lines_kept = fits_and_more Lines (fits_line t) (λ row. is_or_reaches t row.child row.parent) t.lines fitting_rows.lines no_cycles

  products_kept : AllByRecursion (λ row. breaks_product t row ≡ false) t.products
  products_kept = only_fits Products (fits_product t) t.products fitting_rows.products

  exemptions_kept : AllByRecursion (λ row. breaks_exemption t row ≡ false) t.exemptions
  exemptions_kept = only_fits Exemptions (fits_exemption t) t.exemptions fitting_rows.exemptions

  candidates_kept : AllByRecursion (λ row. breaks_candidate t row ≡ false) t.candidates
  candidates_kept = only_fits Candidates (fits_candidate t) t.candidates fitting_rows.candidates

  shipments_kept : AllByRecursion (λ row. breaks_shipment t row ≡ false) t.shipments
  shipments_kept = fits_and_more Shipments (fits_shipment t) (λ row. nat_le (2 ^ 128) (year_mass t row.year)) t.shipments fitting_rows.shipments light_years

  tickets_kept : AllByRecursion (λ row. breaks_ticket t row ≡ false) t.tickets
  tickets_kept =
      each_map (λ row. is_number_once t.tickets row.number ≡ true) (λ row. breaks_ticket t row ≡ false)
      (λ row once. or_none (not (is_number_once t.tickets row.number) || has_too_much_text t) (is_overfull t Tickets) (or_none (not (is_number_once t.tickets row.number)) (has_too_much_text t) (not_broken (is_number_once t.tickets row.number) once) s.limits.texts_fit) (within Tickets)) t.tickets
      (each_number_once t.tickets s.consistent.numbered)

  unbroken : {R : Type 0} (breaks : R → Bool) (wrap : R → Row) (rows : List R) → ((row : R) → Breaks t (wrap row) → breaks row ≡ true) → AllByRecursion (λ row. breaks row ≡ false) rows → AllByRecursion (λ row. Breaks t row → ⊥) (map wrap rows)
  unbroken breaks wrap rows given none =
      each_of_map (λ row. Breaks t row → ⊥) wrap rows (each_map (λ row. breaks row ≡ false) (λ row. Breaks t (wrap row) → ⊥) (λ row e broken. true≢false (sym (given row broken) ∙ e)) rows none)

  tickets_unbroken : AllByRecursion (λ row. Breaks t row → ⊥) (map Ticket t.tickets)
  tickets_unbroken =
      each_of_map (λ row. Breaks t row → ⊥) Ticket t.tickets
      (each_map (λ row. (breaks_ticket t row ≡ false) × IsTicketOfEdit row) (λ row. Breaks t (Ticket row) → ⊥)
      (λ row h broken. ⊎_elim (λ e. true≢false (sym e ∙ h.0)) (λ not. not h.1) broken) t.tickets
      (each_both (λ row. breaks_ticket t row ≡ false) IsTicketOfEdit t.tickets tickets_kept s.consistent.tickets_of_edits))

  all_unbroken : AllByRecursion (λ row. Breaks t row → ⊥) (rows_of t)
  unfolding rows_of
  all_unbroken =
      let join = each_append t (λ row. Breaks t row → ⊥) in
      let substances = unbroken (breaks_substance t) Substance t.substances (λ row e. e) substances_kept in
      let members = unbroken (breaks_member t) Member t.members (λ row e. e) members_kept in
      let materials = unbroken (breaks_material t) Material t.materials (λ row e. e) materials_kept in
      let parts = unbroken (breaks_part t) Part t.parts (λ row e. e) parts_kept in
      let lines = unbroken (breaks_line t) Line t.lines (λ row e. e) lines_kept in
      let products = unbroken (breaks_product t) Product t.products (λ row e. e) products_kept in
      let exemptions = unbroken (breaks_exemption t) Exemption t.exemptions (λ row e. e) exemptions_kept in
      let candidates = unbroken (breaks_candidate t) Candidate t.candidates (λ row e. e) candidates_kept in
      let shipments = unbroken (breaks_shipment t) Shipment t.shipments (λ row e. e) shipments_kept in
      let s2 = join (map Substance t.substances) (map Member t.members) substances members in
      let s3 = join (map Substance t.substances ++ map Member t.members) (map Material t.materials) s2 materials in
      let s4 = join (map Substance t.substances ++ map Member t.members ++ map Material t.materials) (map Part t.parts) s3 parts in
      let s5 = join (map Substance t.substances ++ map Member t.members ++ map Material t.materials ++ map Part t.parts) (map Line t.lines) s4 lines in
      let s6 = join (map Substance t.substances ++ map Member t.members ++ map Material t.materials ++ map Part t.parts ++ map Line t.lines) (map Product t.products) s5 products in
      let s7 = join (map Substance t.substances ++ map Member t.members ++ map Material t.materials ++ map Part t.parts ++ map Line t.lines ++ map Product t.products) (map Exemption t.exemptions) s6 exemptions in
      let s8 = join (map Substance t.substances ++ map Member t.members ++ map Material t.materials ++ map Part t.parts ++ map Line t.lines ++ map Product t.products ++ map Exemption t.exemptions) (map Candidate t.candidates) s7 candidates in
      let s9 = join (map Substance t.substances ++ map Member t.members ++ map Material t.materials ++ map Part t.parts ++ map Line t.lines ++ map Product t.products ++ map Exemption t.exemptions ++ map Candidate t.candidates) (map Shipment t.shipments) s8 shipments in
      join (map Substance t.substances ++ map Member t.members ++ map Material t.materials ++ map Part t.parts ++ map Line t.lines ++ map Product t.products ++ map Exemption t.exemptions ++ map Candidate t.candidates ++ map Shipment t.shipments) (map Ticket t.tickets) s9 tickets_unbroken

pub told : (t : Lists) (table : ℕ) (code : List ℕ) → IsBrokenAt t table code → Sound t → ⊥
told t table code broken s = any_not (Breaks t) (rows_of t) (all_unbroken t s) (broken.0, broken.1, broken.2, broken.3, broken.4.2)
