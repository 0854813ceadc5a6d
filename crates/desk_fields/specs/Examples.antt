-- Examples of the texts of rows, worked out by hand. The check computes them.
use Rattle.std.specs.Prelude.{◌≡◌, [], ◌∷◌, Some, None, codes}
use Rattle.std.specs.List.{join_with_byte}
use Rattle.desk_law.specs.declared.annex.Annex.TheVariants.{Three}
use Rattle.desk_law.specs.declared.kind.Kind.TheVariants.{Telecommunications, Toy}
use Rattle.desk_law.specs.declared.rule.Rule.TheVariants.{Lead, Cadmium}
use Rattle.desk_model.specs.declared.part_sort.PartSort.TheVariants.{Assembly}
use Rattle.desk_model.specs.declared.row.Row.{Row}
use Rattle.desk_model.specs.declared.row.Row.TheVariants.{Substance, Member, Material, Part, Line, Product, Exemption, Candidate, Shipment, Ticket}
use Rattle.desk_model.specs.Examples.Desks.{date, holds}
use Rattle.desk_model.specs.RowTexts.{body_text}

abbrev pub solder : Row
solder = Material (record {
  code = codes "SOLDER";
  supplier = codes "ACME";
  number = 7;
  day = date 2024 1 23;
  name = codes "Solder paste";
  mass = 1000000;
  substances = holds (codes "lead") 1000 ∷ [];
  claims = record { rule = Lead; number = codes "6(c)" } ∷ record { rule = Cadmium; number = codes "8(b)" } ∷ [];
})

abbrev pub copper : Row
copper = Exemption (record {
  terms = record {
    row = codes "R6C";
    annex = Three;
    number = codes "6(c)";
    rule = Lead;
    kinds = Telecommunications ∷ Toy ∷ [];
    first = date 2014 7 22;
    last = date 2026 6 30;
    floor = None;
    cap = Some 40000;
  };
  application = codes "Copper alloys";
})

-- texts of rows of each table
pub record RowTextExamples : Type 0 where
  pub substance : body_text (Substance (record { code = codes "lead"; name = codes "Lead"; cas = Some (codes "7439-92-1") }))
      ≡ join_with_byte 9 (codes "1" ∷ codes "Lead" ∷ codes "7439-92-1" ∷ [])
  -- an absent CAS number is an empty field
  pub no_cas : body_text (Substance (record { code = codes "pbb"; name = codes "PBB"; cas = None })) ≡ join_with_byte 9 (codes "1" ∷ codes "PBB" ∷ [] ∷ [])
  pub member : body_text (Member (record { substance = codes "lead-oxide"; rule = Lead; factor = 928320 })) ≡ join_with_byte 9 (codes "1" ∷ codes "928320" ∷ [])
  pub material : body_text solder
      ≡ join_with_byte 9 (codes "1" ∷ codes "ACME" ∷ codes "7" ∷ codes "2024-01-23" ∷ codes "Solder paste" ∷ codes "1000000" ∷ codes "1"
      ∷ codes "lead" ∷ codes "1000" ∷ codes "2" ∷ codes "lead" ∷ codes "6(c)" ∷ codes "cadmium" ∷ codes "8(b)" ∷ [])
  pub part : body_text (Part (record { code = codes "A"; sort = Assembly; name = codes "Frame" }))
      ≡ join_with_byte 9 (codes "1" ∷ codes "assembly" ∷ codes "Frame" ∷ [])
  pub line : body_text (Line (record { parent = codes "A"; child = codes "B"; count = 2 })) ≡ join_with_byte 9 (codes "1" ∷ codes "2" ∷ [])
  pub product : body_text (Product (record { part = codes "A"; kind = Toy })) ≡ join_with_byte 9 (codes "1" ∷ codes "7t" ∷ [])
  pub exemption : body_text copper
      ≡ join_with_byte 9 (codes "1" ∷ codes "3" ∷ codes "6(c)" ∷ codes "lead" ∷ codes "3,7t" ∷ codes "2014-07-22" ∷ codes "2026-06-30" ∷ []
      ∷ codes "40000" ∷ codes "Copper alloys" ∷ [])
  pub candidate : body_text (Candidate (record { substance = codes "dehp"; day = date 2008 10 28 })) ≡ join_with_byte 9 (codes "1" ∷ codes "2008-10-28" ∷ [])
  pub shipment : body_text (Shipment (record { year = 2024; product = codes "P"; units = 1000 })) ≡ join_with_byte 9 (codes "1" ∷ codes "1000" ∷ [])
  -- the last field of a ticket is the text of its edit, with the TABs in it
  pub ticket : body_text (Ticket (record { code = codes "E:t"; number = 12; text = join_with_byte 9 (codes "unline" ∷ codes "A" ∷ codes "B" ∷ []) }))
      ≡ join_with_byte 9 (codes "1" ∷ codes "12" ∷ codes "unline" ∷ codes "A" ∷ codes "B" ∷ [])
