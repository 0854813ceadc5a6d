-- Texts of edits, codes of tickets, and the start tables.
use Rattle.std.specs.Prelude.{◌≡◌, ℕ, List, [], ◌∷◌, ◌++◌, Option, None, Some, codes, map}
use Rattle.std.specs.List.{join_with_byte}
use Rattle.desk_law.specs.declared.annex.Annex.TheVariants.{Three, Four}
use Rattle.desk_law.specs.declared.kind.Kind.TheVariants.{Telecommunications, MedicalDevice, InVitroDiagnostic, IndustrialInstrument}
use Rattle.desk_law.specs.declared.rule.Rule.{Rule}
use Rattle.desk_law.specs.declared.rule.Rule.TheVariants.{Lead, Mercury, Cadmium, ChromiumVi, Pbb, Pbde, Dehp, Bbp, Dbp, Dibp}
use Rattle.desk_model.specs.declared.edit.Edit.TheVariants.{Substance, Member, Declare, Part, Line, Unline, Product}
use Rattle.desk_model.specs.declared.edit.Edit.TheVariants.{Exemption, Unexempt, Candidate, Ship, Unship}
use Rattle.desk_model.specs.declared.material_decl.MaterialDecl.{MaterialDecl}
use Rattle.desk_model.specs.declared.part_sort.PartSort.TheVariants.{Article, Assembly}
use Rattle.desk_model.specs.declared.rows.member.MemberRow.{MemberRow}
use Rattle.desk_model.specs.declared.rows.substance.SubstanceRow.{SubstanceRow}
use Rattle.desk_model.specs.EditText.{edit_text, ticket_code}
use Rattle.desk_model.specs.Start.{start}
use Rattle.desk_model.specs.Examples.Desks.{date, declares, holds, material}
use Rattle.desk_model.specs.Examples.Forms.{good_edits}
use Rattle.desk_model.specs.declared.edit.Edit.{Edit}

abbrev pub solder : Edit
solder = Declare (record {
  supplier = codes "ACME";
  number = 7;
  day = date 2024 1 23;
  materials =
      record { code = codes "SOLDER"; name = codes "Solder paste"; mass = 1000000; substances = holds (codes "lead") 1000 ∷ []; claims = [] } ∷ [];
})

abbrev pub brass : MaterialDecl
brass = record {
  code = codes "BRASS";
  name = codes "Brass";
  mass = 10;
  substances = holds (codes "lead") 4 ∷ holds (codes "tin") 6 ∷ [];
  claims = record { rule = Lead; number = codes "6(c)" } ∷ record { rule = Cadmium; number = codes "8(b)" } ∷ [];
}

pub record TextExamples : Type 0 where
  pub declaration : edit_text solder
      ≡ join_with_byte 9 (codes "declare" ∷ codes "ACME" ∷ codes "7" ∷ codes "2024-01-23" ∷ codes "1" ∷ codes "SOLDER"
      ∷ codes "Solder paste" ∷ codes "1000000" ∷ codes "1" ∷ codes "lead" ∷ codes "1000" ∷ codes "0" ∷ [])
  pub declaration_code : ticket_code solder ≡ codes "D:ACME:7"
  pub part : edit_text (Part (codes "t1") (codes "A") Assembly (codes "Frame")) ≡ codes "part" ++ 9 ∷ codes "A" ++ 9 ∷ codes "assembly" ++ 9 ∷ codes "Frame"
  pub sent_code : ticket_code (Part (codes "t1") (codes "A") Assembly (codes "Frame")) ≡ codes "E:t1"
  -- an absent CAS number is an empty field
  pub no_cas : edit_text (Substance (codes "t1") (codes "pbb") (codes "PBB") None) ≡ join_with_byte 9 (codes "substance" ∷ codes "pbb" ∷ codes "PBB" ∷ [] ∷ [])
  pub exemption : edit_text (Exemption (codes "t1") (record {
    terms = record {
      row = codes "R";
      annex = Four;
      number = codes "1(a)";
      rule = Lead;
      kinds = MedicalDevice ∷ IndustrialInstrument ∷ [];
      first = date 2014 7 22;
      last = date 2026 6 30;
      floor = None;
      cap = Some 40000;
    };
    application = codes "Shielding";
  })) ≡ join_with_byte 9 (codes "exemption" ∷ codes "R" ∷ codes "4" ∷ codes "1(a)" ∷ codes "lead" ∷ codes "8,9i" ∷ codes "2014-07-22"
      ∷ codes "2026-06-30" ∷ [] ∷ codes "40000" ∷ codes "Shielding" ∷ [])
  pub ship : edit_text (Ship (codes "t1") (codes "G") 2024 1000) ≡ join_with_byte 9 (codes "ship" ∷ codes "G" ∷ codes "2024" ∷ codes "1000" ∷ [])
  pub exemption_from_floor : edit_text (Exemption (codes "t1") (record {
    terms = record {
      row = codes "R";
      annex = Three;
      number = codes "6(c)";
      rule = Cadmium;
      kinds = Telecommunications ∷ [];
      first = date 2014 7 22;
      last = date 2026 6 30;
      floor = Some 10;
      cap = None;
    };
    application = codes "Alloy";
  })) ≡ join_with_byte 9 (codes "exemption" ∷ codes "R" ∷ codes "3" ∷ codes "6(c)" ∷ codes "cadmium" ∷ codes "3" ∷ codes "2014-07-22"
      ∷ codes "2026-06-30" ∷ codes "10" ∷ [] ∷ codes "Alloy" ∷ [])
  -- two materials, of which the first holds two substances and makes two claims
  pub declaration_of_two : edit_text (declares (codes "BRASSCO") 11 (brass ∷ material (codes "COPPER") 20 [] ∷ []))
      ≡ join_with_byte 9 (codes "declare" ∷ codes "BRASSCO" ∷ codes "11" ∷ codes "2024-01-23" ∷ codes "2"
      ∷ codes "BRASS" ∷ codes "Brass" ∷ codes "10" ∷ codes "2" ∷ codes "lead" ∷ codes "4" ∷ codes "tin" ∷ codes "6" ∷ codes "2"
      ∷ codes "lead" ∷ codes "6(c)" ∷ codes "cadmium" ∷ codes "8(b)"
      ∷ codes "COPPER" ∷ codes "COPPER" ∷ codes "20" ∷ codes "0" ∷ codes "0" ∷ [])
  pub substance : edit_text (Substance (codes "t1") (codes "tin") (codes "Tin") (Some (codes "7440-31-5")))
      ≡ join_with_byte 9 (codes "substance" ∷ codes "tin" ∷ codes "Tin" ∷ codes "7440-31-5" ∷ [])
  pub member : edit_text (Member (codes "t1") (codes "lead-oxide") Lead 928320)
      ≡ join_with_byte 9 (codes "member" ∷ codes "lead-oxide" ∷ codes "lead" ∷ codes "928320" ∷ [])
  pub article : edit_text (Part (codes "t1") (codes "C") Article (codes "Cable"))
      ≡ join_with_byte 9 (codes "part" ∷ codes "C" ∷ codes "article" ∷ codes "Cable" ∷ [])
  pub line : edit_text (Line (codes "t1") (codes "A") (codes "C") 40) ≡ join_with_byte 9 (codes "line" ∷ codes "A" ∷ codes "C" ∷ codes "40" ∷ [])
  pub unline : edit_text (Unline (codes "t1") (codes "A") (codes "C")) ≡ join_with_byte 9 (codes "unline" ∷ codes "A" ∷ codes "C" ∷ [])
  pub product : edit_text (Product (codes "t1") (codes "A") InVitroDiagnostic) ≡ join_with_byte 9 (codes "product" ∷ codes "A" ∷ codes "8i" ∷ [])
  pub unexempt : edit_text (Unexempt (codes "t1") (codes "R")) ≡ join_with_byte 9 (codes "unexempt" ∷ codes "R" ∷ [])
  pub candidate : edit_text (Candidate (codes "t1") (codes "lead") (date 2018 6 27))
      ≡ join_with_byte 9 (codes "candidate" ∷ codes "lead" ∷ codes "2018-06-27" ∷ [])
  pub unship : edit_text (Unship (codes "t1") (codes "G") 2024 1000) ≡ join_with_byte 9 (codes "unship" ∷ codes "G" ∷ codes "2024" ∷ codes "1000" ∷ [])
  -- of all twelve sorts of edit a declaration alone has a ticket of its own
  pub ticket_codes : map ticket_code good_edits
      ≡ codes "E:t1" ∷ codes "E:t2" ∷ codes "D:ACME:7" ∷ codes "E:t4" ∷ codes "E:t5" ∷ codes "E:t6" ∷ codes "E:t7" ∷ codes "E:t8"
      ∷ codes "E:t9" ∷ codes "E:t10" ∷ codes "E:t11" ∷ codes "E:t12" ∷ []

-- a base substance
abbrev pub base : List ℕ → List ℕ → Option (List ℕ) → SubstanceRow
base code name cas = record { code = code; name = name; cas = cas }

-- all of a base substance counts for its rule
abbrev pub whole : List ℕ → Rule → MemberRow
whole code rule = record { substance = code; rule = rule; factor = 1000000 }

-- the start tables, row by row, in order of code
pub record StartExamples : Type 0 where
  pub substances : start.substances
      ≡ base (codes "bbp") (codes "Butyl benzyl phthalate (BBP)") (Some (codes "85-68-7"))
      ∷ base (codes "cadmium") (codes "Cadmium") (Some (codes "7440-43-9"))
      ∷ base (codes "chromium-vi") (codes "Hexavalent chromium") (Some (codes "18540-29-9"))
      ∷ base (codes "dbp") (codes "Dibutyl phthalate (DBP)") (Some (codes "84-74-2"))
      ∷ base (codes "dehp") (codes "Bis(2-ethylhexyl) phthalate (DEHP)") (Some (codes "117-81-7"))
      ∷ base (codes "dibp") (codes "Diisobutyl phthalate (DIBP)") (Some (codes "84-69-5"))
      ∷ base (codes "lead") (codes "Lead") (Some (codes "7439-92-1"))
      ∷ base (codes "mercury") (codes "Mercury") (Some (codes "7439-97-6"))
      ∷ base (codes "pbb") (codes "Polybrominated biphenyls (PBB)") None
      ∷ base (codes "pbde") (codes "Polybrominated diphenyl ethers (PBDE)") None
      ∷ []
  pub members : start.members
      ≡ whole (codes "bbp") Bbp
      ∷ whole (codes "cadmium") Cadmium
      ∷ whole (codes "chromium-vi") ChromiumVi
      ∷ whole (codes "dbp") Dbp
      ∷ whole (codes "dehp") Dehp
      ∷ whole (codes "dibp") Dibp
      ∷ whole (codes "lead") Lead
      ∷ whole (codes "mercury") Mercury
      ∷ whole (codes "pbb") Pbb
      ∷ whole (codes "pbde") Pbde
      ∷ []
  -- and nothing else
  pub nothing_else : start
      ≡ record {
        substances = start.substances;
        members = start.members;
        materials = [];
        parts = [];
        lines = [];
        products = [];
        exemptions = [];
        candidates = [];
        shipments = [];
        tickets = [];
      }
