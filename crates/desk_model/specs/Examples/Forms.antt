-- Values at both ends of their ranges, and rows and edits of which one value is out of its form.
use Rattle.std.specs.Prelude.{◌≡◌, ℕ, true, false, not, List, [], ◌∷◌, None, Some, codes, map}
use Rattle.std.specs.List.{list_all, range_with_len}
use Rattle.desk_text.specs.Day.{Date, zero_padded}
use Rattle.desk_law.specs.declared.annex.Annex.TheVariants.{Three}
use Rattle.desk_law.specs.declared.claim.Claim.{Claim}
use Rattle.desk_law.specs.declared.kind.Kind.TheVariants.{Telecommunications, Consumer}
use Rattle.desk_law.specs.declared.rule.Rule.{Rule}
use Rattle.desk_law.specs.declared.rule.Rule.TheVariants.{Lead, Cadmium}
use Rattle.desk_model.specs.declared.edit.Edit.{Edit}
use Rattle.desk_model.specs.declared.edit.Edit.TheVariants.{Substance, Member, Declare, Part, Line, Unline, Product}
use Rattle.desk_model.specs.declared.edit.Edit.TheVariants.{Exemption, Unexempt, Candidate, Ship, Unship}
use Rattle.desk_model.specs.declared.limits.TheConstants.{COUNT_LIMIT, FIRST_SHIPMENT_YEAR, LAST_SHIPMENT_YEAR}
use Rattle.desk_model.specs.declared.limits.TheConstants.{UNITS_LIMIT, WHOLE_FACTOR, MASS_LIMIT, PPM_LIMIT, TONNE}
use Rattle.desk_model.specs.declared.limits.TheConstants.{DECLARED_LIMIT, CONTENT_LIMIT, CLAIM_LIMIT}
use Rattle.desk_model.specs.declared.material_decl.MaterialDecl.{MaterialDecl}
use Rattle.desk_model.specs.declared.part_sort.PartSort.TheVariants.{Article}
use Rattle.desk_model.specs.declared.rows.exemption.ExemptionRow.{ExemptionRow}
use Rattle.desk_model.specs.declared.rows.line.LineRow.{LineRow}
use Rattle.desk_model.specs.declared.rows.material.MaterialRow.{MaterialRow}
use Rattle.desk_model.specs.declared.rows.shipment.ShipmentRow.{ShipmentRow}
use Rattle.desk_model.specs.declared.rows.substance.SubstanceRow.{SubstanceRow}
use Rattle.desk_model.specs.declared.substance_mass.SubstanceMass.{SubstanceMass}
use Rattle.desk_model.specs.Content.{are_claims, are_substances, holds_too_much, is_content}
use Rattle.desk_model.specs.Declaration.{Declared, is_declaration, is_declaration_number}
use Rattle.desk_model.specs.Forms.{are_units, is_candidate_row, is_count, is_edit_in_form, is_exemption_row}
use Rattle.desk_model.specs.Forms.{is_line_row, is_material_row, is_member_row, is_part_row, is_product_row}
use Rattle.desk_model.specs.Forms.{is_shipment_row, is_substance_row, is_year}
use Rattle.desk_model.specs.Terms.{are_kinds, is_ppm}
use Rattle.desk_model.specs.Examples.Desks.{date, holds, material}

pub record RangeExamples : Type 0 where
  pub limits : DECLARED_LIMIT ∷ CONTENT_LIMIT ∷ CLAIM_LIMIT ∷ [] ≡ 256 ∷ 64 ∷ 16 ∷ []
  pub ranges : WHOLE_FACTOR ∷ COUNT_LIMIT ∷ MASS_LIMIT ∷ PPM_LIMIT ∷ UNITS_LIMIT ∷ TONNE ∷ []
      ≡ 1000000 ∷ 1000000 ∷ 1000000000000000 ∷ 1000000 ∷ 1000000000000 ∷ 1000000000000 ∷ []
  pub years : FIRST_SHIPMENT_YEAR ∷ LAST_SHIPMENT_YEAR ∷ [] ≡ 2008 ∷ 2099 ∷ []
  pub counts : map is_count (0 ∷ 1 ∷ 1000000 ∷ 1000001 ∷ []) ≡ false ∷ true ∷ true ∷ false ∷ []
  pub shipment_years : map is_year (2007 ∷ 2008 ∷ 2099 ∷ 2100 ∷ []) ≡ false ∷ true ∷ true ∷ false ∷ []
  pub units : map are_units (0 ∷ 1 ∷ 1000000000000 ∷ 1000000000001 ∷ []) ≡ false ∷ true ∷ true ∷ false ∷ []
  pub numbers : map is_declaration_number (0 ∷ 1 ∷ 18446744073709551615 ∷ 18446744073709551616 ∷ []) ≡ false ∷ true ∷ true ∷ false ∷ []
  -- an edit's factor may be 0, which takes the member out, and a kept one may not
  pub kept_factors : map (λ factor. is_member_row (record { substance = codes "lead"; rule = Lead; factor = factor })) (0 ∷ 1 ∷ 1000000 ∷ 1000001 ∷ [])
      ≡ false ∷ true ∷ true ∷ false ∷ []
  pub sent_factors : map (λ factor. is_edit_in_form (Member (codes "t1") (codes "lead") Lead factor)) (0 ∷ 1000000 ∷ 1000001 ∷ []) ≡ true ∷ true ∷ false ∷ []
  pub floors_and_caps : map is_ppm (None ∷ Some 0 ∷ Some 1000000 ∷ Some 1000001 ∷ []) ≡ true ∷ true ∷ true ∷ false ∷ []
  pub masses : map (λ mass. is_content mass [] []) (0 ∷ 1 ∷ 1000000000000000 ∷ 1000000000000001 ∷ []) ≡ false ∷ true ∷ true ∷ false ∷ []
  pub held_masses : map (λ mass. are_substances (holds (codes "lead") mass ∷ [])) (0 ∷ 1000000000000000 ∷ 1000000000000001 ∷ []) ≡ true ∷ true ∷ false ∷ []

-- so many substances of one microgram, of codes 000, 001 and so on
abbrev pub substances : ℕ → List SubstanceMass
substances count = map (λ n. holds (zero_padded 3 n) 1) (range_with_len 0 count)

-- so many claims for lead, of numbers 000, 001 and so on
abbrev pub claims : ℕ → List Claim
claims count = map (λ n. record { rule = Lead; number = zero_padded 3 n }) (range_with_len 0 count)

-- a declaration of so many materials, of codes 000, 001 and so on
abbrev pub declaration : ℕ → Declared
declaration count = record {
  supplier = codes "ACME";
  number = 1;
  day = date 2024 1 23;
  materials = map (λ n. material (zero_padded 3 n) 1 []) (range_with_len 0 count);
}

abbrev pub claim : Rule → List ℕ → Claim
claim rule number = record { rule = rule; number = number }

pub record ContentExamples : Type 0 where
  pub counts_of_substances : map (λ count. are_substances (substances count)) (0 ∷ 64 ∷ 65 ∷ []) ≡ true ∷ true ∷ false ∷ []
  pub counts_of_claims : map (λ count. are_claims (claims count)) (0 ∷ 16 ∷ 17 ∷ []) ≡ true ∷ true ∷ false ∷ []
  pub counts_of_materials : map (λ count. is_declaration (declaration count)) (0 ∷ 256 ∷ 257 ∷ []) ≡ true ∷ true ∷ false ∷ []
  -- in order of code, each once
  pub orders_of_substances : map are_substances
      ((holds (codes "a") 1 ∷ holds (codes "b") 1 ∷ []) ∷ (holds (codes "b") 1 ∷ holds (codes "a") 1 ∷ [])
      ∷ (holds (codes "a") 1 ∷ holds (codes "a") 2 ∷ []) ∷ [])
      ≡ true ∷ false ∷ false ∷ []
  -- in order of the rule's number and then of the exemption's by bytes, so that 10 stands before 6(c), each once
  pub orders_of_claims : map are_claims
      ((claim Lead (codes "6(c)") ∷ claim Cadmium (codes "10") ∷ [])
      ∷ (claim Cadmium (codes "10") ∷ claim Lead (codes "6(c)") ∷ [])
      ∷ (claim Lead (codes "10") ∷ claim Lead (codes "6(c)") ∷ [])
      ∷ (claim Lead (codes "6(c)") ∷ claim Lead (codes "10") ∷ [])
      ∷ (claim Lead (codes "6(c)") ∷ claim Lead (codes "6(c)") ∷ [])
      ∷ [])
      ≡ true ∷ false ∷ true ∷ false ∷ false ∷ []
  pub orders_of_materials : map (λ all. is_declaration (record (declaration 0) { materials = all }))
      ((material (codes "A") 1 [] ∷ material (codes "B") 1 [] ∷ []) ∷ (material (codes "B") 1 [] ∷ material (codes "A") 1 [] ∷ [])
      ∷ (material (codes "A") 1 [] ∷ material (codes "A") 2 [] ∷ []) ∷ [])
      ≡ true ∷ false ∷ false ∷ []
  -- at least one kind, in the order of the annex, each once
  pub sets_of_kinds : map are_kinds
      ([] ∷ (Telecommunications ∷ []) ∷ (Telecommunications ∷ Consumer ∷ []) ∷ (Consumer ∷ Telecommunications ∷ []) ∷ (Consumer ∷ Consumer ∷ []) ∷ [])
      ≡ false ∷ true ∷ true ∷ false ∷ false ∷ []
  -- substances of as much mass as the material fit
  pub sums : map (λ more. holds_too_much 10 (holds (codes "lead") 6 ∷ holds (codes "tin") more ∷ [])) (3 ∷ 4 ∷ 5 ∷ []) ≡ false ∷ false ∷ true ∷ []

-- no code, no number of an exemption, no CAS number and no name
abbrev pub bad : List ℕ
bad = []

abbrev pub good_name : List ℕ
good_name = codes "Name"

-- a date that the calendar doesn't have
abbrev pub no_day : Date
no_day = date 2023 2 29

abbrev pub substance_row : SubstanceRow
substance_row = record { code = codes "lead"; name = good_name; cas = Some (codes "7439-92-1") }

abbrev pub material_row : MaterialRow
material_row = record {
  code = codes "BRASS";
  supplier = codes "ACME";
  number = 7;
  day = date 2024 1 23;
  name = good_name;
  mass = 10;
  substances = holds (codes "lead") 1 ∷ [];
  claims = claim Lead (codes "6(c)") ∷ [];
}

abbrev pub line_row : LineRow
line_row = record { parent = codes "PIN"; child = codes "BRASS"; count = 1 }

abbrev pub exemption_row : ExemptionRow
exemption_row = record {
  terms = record {
    row = codes "R6C";
    annex = Three;
    number = codes "6(c)";
    rule = Lead;
    kinds = Telecommunications ∷ [];
    first = date 2014 7 22;
    last = date 2026 6 30;
    floor = None;
    cap = Some 40000;
  };
  application = good_name;
}

abbrev pub shipment_row : ShipmentRow
shipment_row = record { year = 2024; product = codes "SET"; units = 1 }

-- rows of which each value is good, and then rows of which one is not
pub record RowExamples : Type 0 where
  pub substances : map is_substance_row
      (substance_row ∷ record substance_row { cas = None } ∷ record substance_row { code = bad } ∷ record substance_row { name = bad }
      ∷ record substance_row { cas = Some bad } ∷ [])
      ≡ true ∷ true ∷ false ∷ false ∷ false ∷ []
  pub members : is_member_row (record { substance = bad; rule = Lead; factor = 1 }) ≡ false
  pub material : is_material_row material_row ≡ true
  pub materials : map is_material_row
      (record material_row { code = bad }
      ∷ record material_row { supplier = bad }
      ∷ record material_row { number = 0 }
      ∷ record material_row { day = no_day }
      ∷ record material_row { name = bad }
      ∷ record material_row { mass = 0 }
      ∷ record material_row { substances = holds bad 1 ∷ [] }
      ∷ record material_row { claims = claim Lead bad ∷ [] }
      ∷ [])
      ≡ false ∷ false ∷ false ∷ false ∷ false ∷ false ∷ false ∷ false ∷ []
  pub parts : map (λ row. is_part_row row)
      (record { code = codes "PIN"; sort = Article; name = good_name } ∷ record { code = bad; sort = Article; name = good_name }
      ∷ record { code = codes "PIN"; sort = Article; name = bad } ∷ [])
      ≡ true ∷ false ∷ false ∷ []
  pub lines : map is_line_row
      (line_row ∷ record line_row { parent = bad } ∷ record line_row { child = bad } ∷ record line_row { count = 0 } ∷ [])
      ≡ true ∷ false ∷ false ∷ false ∷ []
  pub products : map (λ code. is_product_row (record { part = code; kind = Consumer })) (codes "PIN" ∷ bad ∷ []) ≡ true ∷ false ∷ []
  pub exemption : is_exemption_row exemption_row ≡ true
  pub exemptions : map is_exemption_row
      (record exemption_row { terms = record exemption_row.terms { row = bad } }
      ∷ record exemption_row { terms = record exemption_row.terms { number = bad } }
      ∷ record exemption_row { terms = record exemption_row.terms { kinds = [] } }
      ∷ record exemption_row { terms = record exemption_row.terms { first = no_day } }
      ∷ record exemption_row { terms = record exemption_row.terms { last = no_day } }
      ∷ record exemption_row { terms = record exemption_row.terms { floor = Some 1000001 } }
      ∷ record exemption_row { terms = record exemption_row.terms { cap = Some 1000001 } }
      ∷ record exemption_row { application = bad }
      ∷ [])
      ≡ false ∷ false ∷ false ∷ false ∷ false ∷ false ∷ false ∷ false ∷ []
  pub candidates : map (λ row. is_candidate_row row)
      (record { substance = codes "lead"; day = date 2018 6 27 } ∷ record { substance = bad; day = date 2018 6 27 }
      ∷ record { substance = codes "lead"; day = no_day } ∷ [])
      ≡ true ∷ false ∷ false ∷ []
  pub shipments : map is_shipment_row
      (shipment_row ∷ record shipment_row { year = 2007 } ∷ record shipment_row { product = bad } ∷ record shipment_row { units = 0 } ∷ [])
      ≡ true ∷ false ∷ false ∷ false ∷ []

-- a material as it is declared
abbrev pub brass : MaterialDecl
brass = record { code = codes "BRASS"; name = good_name; mass = 10; substances = holds (codes "lead") 1 ∷ []; claims = claim Lead (codes "6(c)") ∷ [] }

abbrev pub declared : Declared
declared = record { supplier = codes "ACME"; number = 7; day = date 2024 1 23; materials = brass ∷ [] }

-- an edit of each sort, with good values
abbrev pub good_edits : List Edit
good_edits =
    Substance (codes "t1") (codes "lead") good_name None
    ∷ Member (codes "t2") (codes "lead") Lead 0
    ∷ Declare declared
    ∷ Part (codes "t4") (codes "PIN") Article good_name
    ∷ Line (codes "t5") (codes "PIN") (codes "BRASS") 1
    ∷ Unline (codes "t6") (codes "PIN") (codes "BRASS")
    ∷ Product (codes "t7") (codes "PIN") Consumer
    ∷ Exemption (codes "t8") exemption_row
    ∷ Unexempt (codes "t9") (codes "R6C")
    ∷ Candidate (codes "t10") (codes "lead") (date 2018 6 27)
    ∷ Ship (codes "t11") (codes "PIN") 2024 1
    ∷ Unship (codes "t12") (codes "PIN") 2024 1
    ∷ []

-- edits of which one value is not good
abbrev pub bad_edits : List Edit
bad_edits =
    Substance bad (codes "lead") good_name None
    ∷ Substance (codes "t") bad good_name None
    ∷ Substance (codes "t") (codes "lead") bad None
    ∷ Substance (codes "t") (codes "lead") good_name (Some bad)
    ∷ Member bad (codes "lead") Lead 1
    ∷ Member (codes "t") bad Lead 1
    ∷ Declare (record declared { supplier = bad })
    ∷ Declare (record declared { number = 18446744073709551616 })
    ∷ Declare (record declared { day = no_day })
    ∷ Declare (record declared { materials = record brass { mass = 0 } ∷ [] })
    ∷ Declare (record declared { materials = record brass { code = bad } ∷ [] })
    ∷ Declare (record declared { materials = record brass { name = bad } ∷ [] })
    ∷ Declare (record declared { materials = record brass { substances = holds bad 1 ∷ [] } ∷ [] })
    ∷ Declare (record declared { materials = record brass { claims = claim Lead bad ∷ [] } ∷ [] })
    ∷ Part bad (codes "PIN") Article good_name
    ∷ Part (codes "t") bad Article good_name
    ∷ Part (codes "t") (codes "PIN") Article bad
    ∷ Line bad (codes "PIN") (codes "BRASS") 1
    ∷ Line (codes "t") bad (codes "BRASS") 1
    ∷ Line (codes "t") (codes "PIN") bad 1
    ∷ Line (codes "t") (codes "PIN") (codes "BRASS") 0
    ∷ Unline bad (codes "PIN") (codes "BRASS")
    ∷ Unline (codes "t") bad (codes "BRASS")
    ∷ Unline (codes "t") (codes "PIN") bad
    ∷ Product bad (codes "PIN") Consumer
    ∷ Product (codes "t") bad Consumer
    ∷ Exemption bad exemption_row
    ∷ Exemption (codes "t") (record exemption_row { application = bad })
    ∷ Unexempt bad (codes "R6C")
    ∷ Unexempt (codes "t") bad
    ∷ Candidate bad (codes "lead") (date 2018 6 27)
    ∷ Candidate (codes "t") bad (date 2018 6 27)
    ∷ Candidate (codes "t") (codes "lead") no_day
    ∷ Ship bad (codes "PIN") 2024 1
    ∷ Ship (codes "t") bad 2024 1
    ∷ Ship (codes "t") (codes "PIN") 2007 1
    ∷ Ship (codes "t") (codes "PIN") 2024 0
    ∷ Unship bad (codes "PIN") 2024 1
    ∷ Unship (codes "t") bad 2024 1
    ∷ Unship (codes "t") (codes "PIN") 2007 1
    ∷ Unship (codes "t") (codes "PIN") 2024 0
    ∷ []

pub record EditExamples : Type 0 where
  pub good : list_all is_edit_in_form good_edits ≡ true
  pub not_good : list_all (λ edit. not (is_edit_in_form edit)) bad_edits ≡ true
