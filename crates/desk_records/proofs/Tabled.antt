-- What a change of one table makes of a look-up among the records of all tables.
use Rattle.std.proofs.Common.{◌≡◌, ℕ, cond, List, [], ◌∷◌, map, refl, sym, ap, ◌∙◌, Option}
use Rattle.desk_edge.specs.Content.{same_key}
use Rattle.desk_edge.specs.declared.key.Key.{Key}
use Rattle.desk_edge.specs.declared.record.Record.{Record}
use Rattle.desk_model.specs.declared.row.Row.{Row}
use Rattle.desk_model.specs.declared.row.Row.TheVariants.{Substance, Member, Material, Part, Line, Product, Exemption, Candidate, Shipment, Ticket}
use Rattle.desk_model.specs.declared.rows.substance.SubstanceRow.{SubstanceRow}
use Rattle.desk_model.specs.declared.rows.member.MemberRow.{MemberRow}
use Rattle.desk_model.specs.declared.rows.material.MaterialRow.{MaterialRow}
use Rattle.desk_model.specs.declared.rows.part.PartRow.{PartRow}
use Rattle.desk_model.specs.declared.rows.line.LineRow.{LineRow}
use Rattle.desk_model.specs.declared.rows.product.ProductRow.{ProductRow}
use Rattle.desk_model.specs.declared.rows.exemption.ExemptionRow.{ExemptionRow}
use Rattle.desk_model.specs.declared.rows.candidate.CandidateRow.{CandidateRow}
use Rattle.desk_model.specs.declared.rows.shipment.ShipmentRow.{ShipmentRow}
use Rattle.desk_model.specs.declared.rows.ticket.TicketRow.{TicketRow}
use Rattle.desk_model.specs.Lists.{Lists}
use Rattle.desk_model.specs.Rows.{rows_of, table_number}
use Rattle.desk_records.specs.Records.{record_of, records_of}
use Rattle.desk_records.proofs.Moves.{look}
use Rattle.desk_records.proofs.Segments.{look_in, look_joined, others, replaced}

-- the records of each table
abbrev pub in_table : {R : Type 0} → (R → Row) → List R → List Record
in_table as_row rows = map record_of (map as_row rows)

abbrev pub tables_in : Lists → List (List Record)
tables_in t =
    in_table Substance t.substances
    ∷ in_table Member t.members
    ∷ in_table Material t.materials
    ∷ in_table Part t.parts
    ∷ in_table Line t.lines
    ∷ in_table Product t.products
    ∷ in_table Exemption t.exemptions
    ∷ in_table Candidate t.candidates
    ∷ in_table Shipment t.shipments
    ∷ in_table Ticket t.tickets
    ∷ []

look_tables : (t : Lists) (k : Key) → look (records_of t) k ≡ look_in (tables_in t) k
unfolding rows_of
look_tables t k =
    look_joined (map Substance t.substances)
    (map Member t.members ∷ map Material t.materials ∷ map Part t.parts ∷ map Line t.lines ∷ map Product t.products ∷ map Exemption t.exemptions ∷ map Candidate t.candidates ∷ map Shipment t.shipments ∷ map Ticket t.tickets ∷ [])
    k

pub look_substances : (t : Lists) (rows : List SubstanceRow) (code : List ℕ) (o : Option Record) (k : Key)
    → look (in_table Substance rows) k ≡ cond (same_key (record { kind = 1; code = code }) k) o (look (in_table Substance t.substances) k)
    → look (records_of (record t { substances = rows })) k ≡ cond (same_key (record { kind = 1; code = code }) k) o (look (records_of t) k)
unfolding table_number
look_substances t rows code o k e =
    look_tables (record t { substances = rows }) k
    ∙ replaced (record { kind = 1; code = code }) o
    ([])
    (in_table Member t.members ∷ in_table Material t.materials ∷ in_table Part t.parts ∷ in_table Line t.lines ∷ in_table Product t.products ∷ in_table Exemption t.exemptions ∷ in_table Candidate t.candidates ∷ in_table Shipment t.shipments ∷ in_table Ticket t.tickets ∷ [])
    (in_table Substance t.substances) (in_table Substance rows) k
    tt
    (others Member (record { kind = 1; code = code }) (λ row. refl) t.members, (others Material (record { kind = 1; code = code }) (λ row. refl) t.materials, (others Part (record { kind = 1; code = code }) (λ row. refl) t.parts, (others Line (record { kind = 1; code = code }) (λ row. refl) t.lines, (others Product (record { kind = 1; code = code }) (λ row. refl) t.products, (others Exemption (record { kind = 1; code = code }) (λ row. refl) t.exemptions, (others Candidate (record { kind = 1; code = code }) (λ row. refl) t.candidates, (others Shipment (record { kind = 1; code = code }) (λ row. refl) t.shipments, (others Ticket (record { kind = 1; code = code }) (λ row. refl) t.tickets, tt)))))))))
    e
    ∙ ap (cond (same_key (record { kind = 1; code = code }) k) o) (sym (look_tables t k))

pub look_members : (t : Lists) (rows : List MemberRow) (code : List ℕ) (o : Option Record) (k : Key)
    → look (in_table Member rows) k ≡ cond (same_key (record { kind = 2; code = code }) k) o (look (in_table Member t.members) k)
    → look (records_of (record t { members = rows })) k ≡ cond (same_key (record { kind = 2; code = code }) k) o (look (records_of t) k)
unfolding table_number
look_members t rows code o k e =
    look_tables (record t { members = rows }) k
    ∙ replaced (record { kind = 2; code = code }) o
    (in_table Substance t.substances ∷ [])
    (in_table Material t.materials ∷ in_table Part t.parts ∷ in_table Line t.lines ∷ in_table Product t.products ∷ in_table Exemption t.exemptions ∷ in_table Candidate t.candidates ∷ in_table Shipment t.shipments ∷ in_table Ticket t.tickets ∷ [])
    (in_table Member t.members) (in_table Member rows) k
    (others Substance (record { kind = 2; code = code }) (λ row. refl) t.substances, tt)
    (others Material (record { kind = 2; code = code }) (λ row. refl) t.materials, (others Part (record { kind = 2; code = code }) (λ row. refl) t.parts, (others Line (record { kind = 2; code = code }) (λ row. refl) t.lines, (others Product (record { kind = 2; code = code }) (λ row. refl) t.products, (others Exemption (record { kind = 2; code = code }) (λ row. refl) t.exemptions, (others Candidate (record { kind = 2; code = code }) (λ row. refl) t.candidates, (others Shipment (record { kind = 2; code = code }) (λ row. refl) t.shipments, (others Ticket (record { kind = 2; code = code }) (λ row. refl) t.tickets, tt))))))))
    e
    ∙ ap (cond (same_key (record { kind = 2; code = code }) k) o) (sym (look_tables t k))

pub look_materials : (t : Lists) (rows : List MaterialRow) (code : List ℕ) (o : Option Record) (k : Key)
    → look (in_table Material rows) k ≡ cond (same_key (record { kind = 3; code = code }) k) o (look (in_table Material t.materials) k)
    → look (records_of (record t { materials = rows })) k ≡ cond (same_key (record { kind = 3; code = code }) k) o (look (records_of t) k)
unfolding table_number
look_materials t rows code o k e =
    look_tables (record t { materials = rows }) k
    ∙ replaced (record { kind = 3; code = code }) o
    (in_table Substance t.substances ∷ in_table Member t.members ∷ [])
    (in_table Part t.parts ∷ in_table Line t.lines ∷ in_table Product t.products ∷ in_table Exemption t.exemptions ∷ in_table Candidate t.candidates ∷ in_table Shipment t.shipments ∷ in_table Ticket t.tickets ∷ [])
    (in_table Material t.materials) (in_table Material rows) k
    (others Substance (record { kind = 3; code = code }) (λ row. refl) t.substances, (others Member (record { kind = 3; code = code }) (λ row. refl) t.members, tt))
    (others Part (record { kind = 3; code = code }) (λ row. refl) t.parts, (others Line (record { kind = 3; code = code }) (λ row. refl) t.lines, (others Product (record { kind = 3; code = code }) (λ row. refl) t.products, (others Exemption (record { kind = 3; code = code }) (λ row. refl) t.exemptions, (others Candidate (record { kind = 3; code = code }) (λ row. refl) t.candidates, (others Shipment (record { kind = 3; code = code }) (λ row. refl) t.shipments, (others Ticket (record { kind = 3; code = code }) (λ row. refl) t.tickets, tt)))))))
    e
    ∙ ap (cond (same_key (record { kind = 3; code = code }) k) o) (sym (look_tables t k))

pub look_parts : (t : Lists) (rows : List PartRow) (code : List ℕ) (o : Option Record) (k : Key)
    → look (in_table Part rows) k ≡ cond (same_key (record { kind = 4; code = code }) k) o (look (in_table Part t.parts) k)
    → look (records_of (record t { parts = rows })) k ≡ cond (same_key (record { kind = 4; code = code }) k) o (look (records_of t) k)
unfolding table_number
look_parts t rows code o k e =
    look_tables (record t { parts = rows }) k
    ∙ replaced (record { kind = 4; code = code }) o
    (in_table Substance t.substances ∷ in_table Member t.members ∷ in_table Material t.materials ∷ [])
    (in_table Line t.lines ∷ in_table Product t.products ∷ in_table Exemption t.exemptions ∷ in_table Candidate t.candidates ∷ in_table Shipment t.shipments ∷ in_table Ticket t.tickets ∷ [])
    (in_table Part t.parts) (in_table Part rows) k
    (others Substance (record { kind = 4; code = code }) (λ row. refl) t.substances, (others Member (record { kind = 4; code = code }) (λ row. refl) t.members, (others Material (record { kind = 4; code = code }) (λ row. refl) t.materials, tt)))
    (others Line (record { kind = 4; code = code }) (λ row. refl) t.lines, (others Product (record { kind = 4; code = code }) (λ row. refl) t.products, (others Exemption (record { kind = 4; code = code }) (λ row. refl) t.exemptions, (others Candidate (record { kind = 4; code = code }) (λ row. refl) t.candidates, (others Shipment (record { kind = 4; code = code }) (λ row. refl) t.shipments, (others Ticket (record { kind = 4; code = code }) (λ row. refl) t.tickets, tt))))))
    e
    ∙ ap (cond (same_key (record { kind = 4; code = code }) k) o) (sym (look_tables t k))

pub look_lines : (t : Lists) (rows : List LineRow) (code : List ℕ) (o : Option Record) (k : Key)
    → look (in_table Line rows) k ≡ cond (same_key (record { kind = 5; code = code }) k) o (look (in_table Line t.lines) k)
    → look (records_of (record t { lines = rows })) k ≡ cond (same_key (record { kind = 5; code = code }) k) o (look (records_of t) k)
unfolding table_number
look_lines t rows code o k e =
    look_tables (record t { lines = rows }) k
    ∙ replaced (record { kind = 5; code = code }) o
    (in_table Substance t.substances ∷ in_table Member t.members ∷ in_table Material t.materials ∷ in_table Part t.parts ∷ [])
    (in_table Product t.products ∷ in_table Exemption t.exemptions ∷ in_table Candidate t.candidates ∷ in_table Shipment t.shipments ∷ in_table Ticket t.tickets ∷ [])
    (in_table Line t.lines) (in_table Line rows) k
    (others Substance (record { kind = 5; code = code }) (λ row. refl) t.substances, (others Member (record { kind = 5; code = code }) (λ row. refl) t.members, (others Material (record { kind = 5; code = code }) (λ row. refl) t.materials, (others Part (record { kind = 5; code = code }) (λ row. refl) t.parts, tt))))
    (others Product (record { kind = 5; code = code }) (λ row. refl) t.products, (others Exemption (record { kind = 5; code = code }) (λ row. refl) t.exemptions, (others Candidate (record { kind = 5; code = code }) (λ row. refl) t.candidates, (others Shipment (record { kind = 5; code = code }) (λ row. refl) t.shipments, (others Ticket (record { kind = 5; code = code }) (λ row. refl) t.tickets, tt)))))
    e
    ∙ ap (cond (same_key (record { kind = 5; code = code }) k) o) (sym (look_tables t k))

pub look_products : (t : Lists) (rows : List ProductRow) (code : List ℕ) (o : Option Record) (k : Key)
    → look (in_table Product rows) k ≡ cond (same_key (record { kind = 6; code = code }) k) o (look (in_table Product t.products) k)
    → look (records_of (record t { products = rows })) k ≡ cond (same_key (record { kind = 6; code = code }) k) o (look (records_of t) k)
unfolding table_number
look_products t rows code o k e =
    look_tables (record t { products = rows }) k
    ∙ replaced (record { kind = 6; code = code }) o
    (in_table Substance t.substances ∷ in_table Member t.members ∷ in_table Material t.materials ∷ in_table Part t.parts ∷ in_table Line t.lines ∷ [])
    (in_table Exemption t.exemptions ∷ in_table Candidate t.candidates ∷ in_table Shipment t.shipments ∷ in_table Ticket t.tickets ∷ [])
    (in_table Product t.products) (in_table Product rows) k
    (others Substance (record { kind = 6; code = code }) (λ row. refl) t.substances, (others Member (record { kind = 6; code = code }) (λ row. refl) t.members, (others Material (record { kind = 6; code = code }) (λ row. refl) t.materials, (others Part (record { kind = 6; code = code }) (λ row. refl) t.parts, (others Line (record { kind = 6; code = code }) (λ row. refl) t.lines, tt)))))
    (others Exemption (record { kind = 6; code = code }) (λ row. refl) t.exemptions, (others Candidate (record { kind = 6; code = code }) (λ row. refl) t.candidates, (others Shipment (record { kind = 6; code = code }) (λ row. refl) t.shipments, (others Ticket (record { kind = 6; code = code }) (λ row. refl) t.tickets, tt))))
    e
    ∙ ap (cond (same_key (record { kind = 6; code = code }) k) o) (sym (look_tables t k))

pub look_exemptions : (t : Lists) (rows : List ExemptionRow) (code : List ℕ) (o : Option Record) (k : Key)
    → look (in_table Exemption rows) k ≡ cond (same_key (record { kind = 7; code = code }) k) o (look (in_table Exemption t.exemptions) k)
    → look (records_of (record t { exemptions = rows })) k ≡ cond (same_key (record { kind = 7; code = code }) k) o (look (records_of t) k)
unfolding table_number
look_exemptions t rows code o k e =
    look_tables (record t { exemptions = rows }) k
    ∙ replaced (record { kind = 7; code = code }) o
    (in_table Substance t.substances ∷ in_table Member t.members ∷ in_table Material t.materials ∷ in_table Part t.parts ∷ in_table Line t.lines ∷ in_table Product t.products ∷ [])
    (in_table Candidate t.candidates ∷ in_table Shipment t.shipments ∷ in_table Ticket t.tickets ∷ [])
    (in_table Exemption t.exemptions) (in_table Exemption rows) k
    (others Substance (record { kind = 7; code = code }) (λ row. refl) t.substances, (others Member (record { kind = 7; code = code }) (λ row. refl) t.members, (others Material (record { kind = 7; code = code }) (λ row. refl) t.materials, (others Part (record { kind = 7; code = code }) (λ row. refl) t.parts, (others Line (record { kind = 7; code = code }) (λ row. refl) t.lines, (others Product (record { kind = 7; code = code }) (λ row. refl) t.products, tt))))))
    (others Candidate (record { kind = 7; code = code }) (λ row. refl) t.candidates, (others Shipment (record { kind = 7; code = code }) (λ row. refl) t.shipments, (others Ticket (record { kind = 7; code = code }) (λ row. refl) t.tickets, tt)))
    e
    ∙ ap (cond (same_key (record { kind = 7; code = code }) k) o) (sym (look_tables t k))

pub look_candidates : (t : Lists) (rows : List CandidateRow) (code : List ℕ) (o : Option Record) (k : Key)
    → look (in_table Candidate rows) k ≡ cond (same_key (record { kind = 8; code = code }) k) o (look (in_table Candidate t.candidates) k)
    → look (records_of (record t { candidates = rows })) k ≡ cond (same_key (record { kind = 8; code = code }) k) o (look (records_of t) k)
unfolding table_number
look_candidates t rows code o k e =
    look_tables (record t { candidates = rows }) k
    ∙ replaced (record { kind = 8; code = code }) o
    (in_table Substance t.substances ∷ in_table Member t.members ∷ in_table Material t.materials ∷ in_table Part t.parts ∷ in_table Line t.lines ∷ in_table Product t.products ∷ in_table Exemption t.exemptions ∷ [])
    (in_table Shipment t.shipments ∷ in_table Ticket t.tickets ∷ [])
    (in_table Candidate t.candidates) (in_table Candidate rows) k
    (others Substance (record { kind = 8; code = code }) (λ row. refl) t.substances, (others Member (record { kind = 8; code = code }) (λ row. refl) t.members, (others Material (record { kind = 8; code = code }) (λ row. refl) t.materials, (others Part (record { kind = 8; code = code }) (λ row. refl) t.parts, (others Line (record { kind = 8; code = code }) (λ row. refl) t.lines, (others Product (record { kind = 8; code = code }) (λ row. refl) t.products, (others Exemption (record { kind = 8; code = code }) (λ row. refl) t.exemptions, tt)))))))
    (others Shipment (record { kind = 8; code = code }) (λ row. refl) t.shipments, (others Ticket (record { kind = 8; code = code }) (λ row. refl) t.tickets, tt))
    e
    ∙ ap (cond (same_key (record { kind = 8; code = code }) k) o) (sym (look_tables t k))

pub look_shipments : (t : Lists) (rows : List ShipmentRow) (code : List ℕ) (o : Option Record) (k : Key)
    → look (in_table Shipment rows) k ≡ cond (same_key (record { kind = 9; code = code }) k) o (look (in_table Shipment t.shipments) k)
    → look (records_of (record t { shipments = rows })) k ≡ cond (same_key (record { kind = 9; code = code }) k) o (look (records_of t) k)
unfolding table_number
look_shipments t rows code o k e =
    look_tables (record t { shipments = rows }) k
    ∙ replaced (record { kind = 9; code = code }) o
    (in_table Substance t.substances ∷ in_table Member t.members ∷ in_table Material t.materials ∷ in_table Part t.parts ∷ in_table Line t.lines ∷ in_table Product t.products ∷ in_table Exemption t.exemptions ∷ in_table Candidate t.candidates ∷ [])
    (in_table Ticket t.tickets ∷ [])
    (in_table Shipment t.shipments) (in_table Shipment rows) k
    (others Substance (record { kind = 9; code = code }) (λ row. refl) t.substances, (others Member (record { kind = 9; code = code }) (λ row. refl) t.members, (others Material (record { kind = 9; code = code }) (λ row. refl) t.materials, (others Part (record { kind = 9; code = code }) (λ row. refl) t.parts, (others Line (record { kind = 9; code = code }) (λ row. refl) t.lines, (others Product (record { kind = 9; code = code }) (λ row. refl) t.products, (others Exemption (record { kind = 9; code = code }) (λ row. refl) t.exemptions, (others Candidate (record { kind = 9; code = code }) (λ row. refl) t.candidates, tt))))))))
    (others Ticket (record { kind = 9; code = code }) (λ row. refl) t.tickets, tt)
    e
    ∙ ap (cond (same_key (record { kind = 9; code = code }) k) o) (sym (look_tables t k))

pub look_tickets : (t : Lists) (rows : List TicketRow) (code : List ℕ) (o : Option Record) (k : Key)
    → look (in_table Ticket rows) k ≡ cond (same_key (record { kind = 10; code = code }) k) o (look (in_table Ticket t.tickets) k)
    → look (records_of (record t { tickets = rows })) k ≡ cond (same_key (record { kind = 10; code = code }) k) o (look (records_of t) k)
unfolding table_number
look_tickets t rows code o k e =
    look_tables (record t { tickets = rows }) k
    ∙ replaced (record { kind = 10; code = code }) o
    (in_table Substance t.substances ∷ in_table Member t.members ∷ in_table Material t.materials ∷ in_table Part t.parts ∷ in_table Line t.lines ∷ in_table Product t.products ∷ in_table Exemption t.exemptions ∷ in_table Candidate t.candidates ∷ in_table Shipment t.shipments ∷ [])
    ([])
    (in_table Ticket t.tickets) (in_table Ticket rows) k
    (others Substance (record { kind = 10; code = code }) (λ row. refl) t.substances, (others Member (record { kind = 10; code = code }) (λ row. refl) t.members, (others Material (record { kind = 10; code = code }) (λ row. refl) t.materials, (others Part (record { kind = 10; code = code }) (λ row. refl) t.parts, (others Line (record { kind = 10; code = code }) (λ row. refl) t.lines, (others Product (record { kind = 10; code = code }) (λ row. refl) t.products, (others Exemption (record { kind = 10; code = code }) (λ row. refl) t.exemptions, (others Candidate (record { kind = 10; code = code }) (λ row. refl) t.candidates, (others Shipment (record { kind = 10; code = code }) (λ row. refl) t.shipments, tt)))))))))
    tt
    e
    ∙ ap (cond (same_key (record { kind = 10; code = code }) k) o) (sym (look_tables t k))
