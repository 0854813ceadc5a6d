-- What each edit makes of the tables: rows that it enters, in order, and rows that it replaces or takes out.
use Rattle.std.specs.Prelude.{◌≡◌, ℕ, List, [], ◌∷◌, ◌++◌, None, Some, codes, drop, length, map}
use Rattle.std.specs.List.{join_with_byte}
use Rattle.desk_text.specs.Day.{Date}
use Rattle.desk_law.specs.declared.annex.Annex.TheVariants.{Three}
use Rattle.desk_law.specs.declared.kind.Kind.TheVariants.{Telecommunications, Consumer}
use Rattle.desk_law.specs.declared.rule.Rule.TheVariants.{Lead, Mercury, Pbb}
use Rattle.desk_model.specs.declared.edit.Edit.{Edit}
use Rattle.desk_model.specs.declared.edit.Edit.TheVariants.{Substance, Member, Declare, Part, Line, Unline, Product}
use Rattle.desk_model.specs.declared.edit.Edit.TheVariants.{Exemption, Unexempt, Candidate, Ship, Unship}
use Rattle.desk_model.specs.declared.material_decl.MaterialDecl.{MaterialDecl}
use Rattle.desk_model.specs.declared.part_sort.PartSort.TheVariants.{Article, Assembly}
use Rattle.desk_model.specs.declared.rows.exemption.ExemptionRow.{ExemptionRow}
use Rattle.desk_model.specs.declared.rows.material.MaterialRow.{MaterialRow}
use Rattle.desk_model.specs.Lists.{Lists, ticket_row}
use Rattle.desk_model.specs.Examples.Desks.{date, desk_with, holds}

-- an exemption for lead, of a number and a last day
abbrev pub exemption : List ℕ → List ℕ → Date → ExemptionRow
exemption row number last = record {
  terms = record {
    row = row;
    annex = Three;
    number = number;
    rule = Lead;
    kinds = Telecommunications ∷ Consumer ∷ [];
    first = date 2014 7 22;
    last = last;
    floor = None;
    cap = Some 40000;
  };
  application = codes "Copper alloy";
}

abbrev pub brass : MaterialDecl
brass = record {
  code = codes "BRASS";
  name = codes "Brass";
  mass = 10;
  substances = holds (codes "lead") 4 ∷ holds (codes "tin") 6 ∷ [];
  claims = record { rule = Lead; number = codes "6(c)" } ∷ [];
}

abbrev pub copper : MaterialDecl
copper = record { code = codes "COPPER"; name = codes "Copper"; mass = 20; substances = []; claims = [] }

-- each sort of edit that enters a row, in another order than that of the keys
abbrev pub edits : List Edit
edits =
    Substance (codes "t01") (codes "tin") (codes "Tin") (Some (codes "7440-31-5"))
    ∷ Member (codes "t02") (codes "tin") Pbb 500000
    ∷ Member (codes "t03") (codes "tin") Mercury 7
    ∷ Declare (record { supplier = codes "ACME"; number = 7; day = date 2024 1 23; materials = brass ∷ copper ∷ [] })
    ∷ Part (codes "t05") (codes "SET") Assembly (codes "Set")
    ∷ Part (codes "t06") (codes "PIN") Article (codes "Pin")
    ∷ Part (codes "t07") (codes "CABLE") Article (codes "Cable")
    ∷ Line (codes "t08") (codes "SET") (codes "PIN") 5
    ∷ Line (codes "t09") (codes "PIN") (codes "COPPER") 4
    ∷ Line (codes "t10") (codes "PIN") (codes "BRASS") 2
    ∷ Line (codes "t11") (codes "CABLE") (codes "COPPER") 3
    ∷ Product (codes "t12") (codes "SET") Telecommunications
    ∷ Product (codes "t13") (codes "CABLE") Consumer
    ∷ Exemption (codes "t14") (exemption (codes "R2") (codes "6(c)") (date 2026 6 30))
    ∷ Exemption (codes "t15") (exemption (codes "R1") (codes "7(a)") (date 2026 6 30))
    ∷ Candidate (codes "t16") (codes "tin") (date 2020 1 16)
    ∷ Candidate (codes "t17") (codes "lead") (date 2018 6 27)
    ∷ Ship (codes "t18") (codes "SET") 2024 7
    ∷ Ship (codes "t19") (codes "CABLE") 2024 9
    ∷ Ship (codes "t20") (codes "SET") 2023 8
    ∷ []

abbrev pub desk : Lists
desk = desk_with edits

abbrev pub copper_row : MaterialRow
copper_row = record {
  code = codes "COPPER";
  supplier = codes "ACME";
  number = 7;
  day = date 2024 1 23;
  name = codes "Copper";
  mass = 20;
  substances = [];
  claims = [];
}

pub record EntryExamples : Type 0 where
  pub twenty_edits : length desk.tickets ≡ 20
  -- after the ten base substances and their members
  pub substances : drop 10 desk.substances ≡ record { code = codes "tin"; name = codes "Tin"; cas = Some (codes "7440-31-5") } ∷ []
  -- mercury's rule has the lesser number
  pub members : drop 10 desk.members
      ≡ record { substance = codes "tin"; rule = Mercury; factor = 7 } ∷ record { substance = codes "tin"; rule = Pbb; factor = 500000 } ∷ []
  pub materials : desk.materials
      ≡ record {
        code = codes "BRASS";
        supplier = codes "ACME";
        number = 7;
        day = date 2024 1 23;
        name = codes "Brass";
        mass = 10;
        substances = holds (codes "lead") 4 ∷ holds (codes "tin") 6 ∷ [];
        claims = record { rule = Lead; number = codes "6(c)" } ∷ [];
      } ∷ copper_row ∷ []
  pub parts : desk.parts
      ≡ record { code = codes "CABLE"; sort = Article; name = codes "Cable" }
      ∷ record { code = codes "PIN"; sort = Article; name = codes "Pin" }
      ∷ record { code = codes "SET"; sort = Assembly; name = codes "Set" }
      ∷ []
  -- by parent, then by child
  pub lines : desk.lines
      ≡ record { parent = codes "CABLE"; child = codes "COPPER"; count = 3 }
      ∷ record { parent = codes "PIN"; child = codes "BRASS"; count = 2 }
      ∷ record { parent = codes "PIN"; child = codes "COPPER"; count = 4 }
      ∷ record { parent = codes "SET"; child = codes "PIN"; count = 5 }
      ∷ []
  pub products : desk.products ≡ record { part = codes "CABLE"; kind = Consumer } ∷ record { part = codes "SET"; kind = Telecommunications } ∷ []
  pub exemptions : desk.exemptions
      ≡ exemption (codes "R1") (codes "7(a)") (date 2026 6 30) ∷ exemption (codes "R2") (codes "6(c)") (date 2026 6 30) ∷ []
  pub candidates : desk.candidates
      ≡ record { substance = codes "lead"; day = date 2018 6 27 } ∷ record { substance = codes "tin"; day = date 2020 1 16 } ∷ []
  -- by year, then by product
  pub shipments : desk.shipments
      ≡ record { year = 2023; product = codes "SET"; units = 8 }
      ∷ record { year = 2024; product = codes "CABLE"; units = 9 }
      ∷ record { year = 2024; product = codes "SET"; units = 7 }
      ∷ []
  -- the declaration's ticket, D:ACME:7, stands before those of the other edits
  pub tickets : map (λ ticket. ticket.number) desk.tickets
      ≡ 4 ∷ 1 ∷ 2 ∷ 3 ∷ 5 ∷ 6 ∷ 7 ∷ 8 ∷ 9 ∷ 10 ∷ 11 ∷ 12 ∷ 13 ∷ 14 ∷ 15 ∷ 16 ∷ 17 ∷ 18 ∷ 19 ∷ 20 ∷ []
  pub ticket : ticket_row desk (codes "E:t02")
      ≡ Some (record { code = codes "E:t02"; number = 2; text = join_with_byte 9 (codes "member" ∷ codes "tin" ∷ codes "pbb" ∷ codes "500000" ∷ []) })

-- each sort of edit that replaces a row or takes one out
abbrev pub changes : List Edit
changes =
    Substance (codes "u01") (codes "tin") (codes "Stannum") None
    ∷ Member (codes "u02") (codes "tin") Pbb 1
    ∷ Member (codes "u03") (codes "tin") Mercury 0
    ∷ Declare (record {
      supplier = codes "ACME";
      number = 8;
      day = date 2024 3 1;
      materials = record { code = codes "BRASS"; name = codes "Yellow brass"; mass = 9; substances = []; claims = [] } ∷ [];
    })
    ∷ Part (codes "u05") (codes "PIN") Article (codes "Contact pin")
    ∷ Line (codes "u06") (codes "PIN") (codes "BRASS") 6
    ∷ Unline (codes "u07") (codes "PIN") (codes "COPPER")
    ∷ Product (codes "u08") (codes "SET") Consumer
    ∷ Exemption (codes "u09") (exemption (codes "R2") (codes "6(c)") (date 2025 6 30))
    ∷ Unexempt (codes "u10") (codes "R1")
    ∷ Candidate (codes "u11") (codes "tin") (date 2021 1 19)
    ∷ Ship (codes "u12") (codes "SET") 2024 3
    ∷ Unship (codes "u13") (codes "CABLE") 2024 4
    ∷ Unship (codes "u14") (codes "SET") 2023 8
    ∷ []

abbrev pub later : Lists
later = desk_with (edits ++ changes)

pub record ReplacementExamples : Type 0 where
  pub all_edits : length later.tickets ≡ 34
  pub substances : drop 10 later.substances ≡ record { code = codes "tin"; name = codes "Stannum"; cas = None } ∷ []
  -- a factor of 0 takes the entry out
  pub members : drop 10 later.members ≡ record { substance = codes "tin"; rule = Pbb; factor = 1 } ∷ []
  -- a declaration replaces a material wholly, and leaves those that it doesn't list
  pub materials : later.materials
      ≡ record {
        code = codes "BRASS";
        supplier = codes "ACME";
        number = 8;
        day = date 2024 3 1;
        name = codes "Yellow brass";
        mass = 9;
        substances = [];
        claims = [];
      } ∷ copper_row ∷ []
  pub parts : later.parts
      ≡ record { code = codes "CABLE"; sort = Article; name = codes "Cable" }
      ∷ record { code = codes "PIN"; sort = Article; name = codes "Contact pin" }
      ∷ record { code = codes "SET"; sort = Assembly; name = codes "Set" }
      ∷ []
  pub lines : later.lines
      ≡ record { parent = codes "CABLE"; child = codes "COPPER"; count = 3 }
      ∷ record { parent = codes "PIN"; child = codes "BRASS"; count = 6 }
      ∷ record { parent = codes "SET"; child = codes "PIN"; count = 5 }
      ∷ []
  pub products : later.products ≡ record { part = codes "CABLE"; kind = Consumer } ∷ record { part = codes "SET"; kind = Consumer } ∷ []
  pub exemptions : later.exemptions ≡ exemption (codes "R2") (codes "6(c)") (date 2025 6 30) ∷ []
  pub candidates : later.candidates
      ≡ record { substance = codes "lead"; day = date 2018 6 27 } ∷ record { substance = codes "tin"; day = date 2021 1 19 } ∷ []
  -- units add up and are taken off, and an entry at 0 is taken out
  pub shipments : later.shipments
      ≡ record { year = 2024; product = codes "CABLE"; units = 5 } ∷ record { year = 2024; product = codes "SET"; units = 10 } ∷ []
