-- Each rule refusing an edit, and rules that stand together, of which the first is told.
use Rattle.std.specs.Prelude.{◌≡◌, ℕ, List, [], ◌∷◌, ◌++◌, Option, Some, None, Ok, Err, codes, filter, length, map}
use Rattle.std.specs.List.{range_with_len}
use Rattle.desk_text.specs.Day.{Date, zero_padded}
use Rattle.desk_law.specs.declared.annex.Annex.{Annex}
use Rattle.desk_law.specs.declared.annex.Annex.TheVariants.{Three, Four}
use Rattle.desk_law.specs.declared.kind.Kind.{Kind}
use Rattle.desk_law.specs.declared.kind.Kind.TheVariants.{LargeHousehold, SmallHousehold, Telecommunications, Consumer}
use Rattle.desk_law.specs.declared.kind.Kind.TheVariants.{Lighting, Tool, ToyLeisureSports, Toy, MedicalDevice}
use Rattle.desk_law.specs.declared.kind.Kind.TheVariants.{InVitroDiagnostic, ControlInstrument, IndustrialInstrument}
use Rattle.desk_law.specs.declared.kind.Kind.TheVariants.{Dispenser, Other}
use Rattle.desk_law.specs.declared.rule.Rule.TheVariants.{Lead}
use Rattle.desk_law.specs.declared.terms.Terms.{Terms}
use Rattle.desk_law.specs.Kind.{all_kinds}
use Rattle.desk_model.specs.declared.edit.Edit.{Edit}
use Rattle.desk_model.specs.declared.edit.Edit.TheVariants.{Member, Part, Line, Unline, Product, Exemption, Unexempt, Candidate, Ship, Unship}
use Rattle.desk_model.specs.declared.part_sort.PartSort.TheVariants.{Article, Assembly}
use Rattle.desk_model.specs.declared.rule_fault.RuleFault.{RuleFault}
use Rattle.desk_model.specs.declared.rule_fault.RuleFault.TheVariants.{TicketReused, UnknownSubstance, UnknownMaterial}
use Rattle.desk_model.specs.declared.rule_fault.RuleFault.TheVariants.{UnknownPart, UnknownProduct, UnknownExemption}
use Rattle.desk_model.specs.declared.rule_fault.RuleFault.TheVariants.{NameTaken, KindChanged, WrongChild, NoSuchLine}
use Rattle.desk_model.specs.declared.rule_fault.RuleFault.TheVariants.{ForeignMaterial, StaleDeclaration, MassesExceed}
use Rattle.desk_model.specs.declared.rule_fault.RuleFault.TheVariants.{ExemptionSpan, AnnexKinds, ShipBelowZero}
use Rattle.desk_model.specs.declared.rule_fault.RuleFault.TheVariants.{UnitsTooLarge, TableFull, TextFull, ClosesCycle, FindingsFull}
use Rattle.desk_model.specs.Effect.{units_of}
use Rattle.desk_model.specs.Lists.{Lists}
use Rattle.desk_model.specs.Start.{start}
use Rattle.desk_history.specs.Refused.{closes_cycle, findings_full, refused_by_bill, total_too_large}
use Rattle.desk_history.specs.Step.{step}
use Rattle.desk_model.specs.Terms.{breaks_annex}
use Rattle.desk_model.specs.Examples.Desks.{article, assembly, date, declares, holds, material}
use Rattle.desk_history.specs.Examples.Desks.{answer_at, desk_after}
use Rattle.desk_history.specs.Examples.Limits.{tower}

-- the terms of an exemption for lead under 6(c)
abbrev pub terms : Annex → List Kind → Date → Date → Option ℕ → Option ℕ → Terms
terms annex kinds first last floor cap = record {
  row = codes "R6C";
  annex = annex;
  number = codes "6(c)";
  rule = Lead;
  kinds = kinds;
  first = first;
  last = last;
  floor = floor;
  cap = cap;
}

abbrev pub exemption : List ℕ → Annex → List Kind → Date → Date → Option ℕ → Option ℕ → Edit
exemption ticket annex kinds first last floor cap =
    Exemption ticket (record { terms = terms annex kinds first last floor cap; application = codes "Copper alloy" })

-- a material, an article of it, an assembly of the article that is a product, and another assembly
abbrev pub edits : List Edit
edits =
    declares (codes "ACME") 7 (material (codes "SOLDER") 1000000 (holds (codes "lead") 1000 ∷ []) ∷ [])
    ∷ article (codes "t2") (codes "PIN")
    ∷ assembly (codes "t3") (codes "BOARD")
    ∷ assembly (codes "t4") (codes "CASE")
    ∷ Line (codes "t5") (codes "PIN") (codes "SOLDER") 1
    ∷ Line (codes "t6") (codes "BOARD") (codes "PIN") 2
    ∷ Product (codes "t7") (codes "BOARD") Telecommunications
    ∷ Ship (codes "t8") (codes "BOARD") 2024 3
    ∷ []

abbrev pub desk : Lists
desk = desk_after edits

pub record RefusalExamples : Type 0 where
  pub rule_1 : answer_at desk (article (codes "t3") (codes "BOARD")) ≡ Err TicketReused
  pub rule_1_declare : answer_at desk (declares (codes "ACME") 7 (material (codes "SOLDER") 1000000 (holds (codes "lead") 999 ∷ []) ∷ [])) ≡ Err TicketReused
  pub rule_2_member : answer_at desk (Member (codes "t9") (codes "gold") Lead 1) ≡ Err (UnknownSubstance (codes "gold"))
  pub rule_2_candidate : answer_at desk (Candidate (codes "t9") (codes "gold") (date 2024 1 23)) ≡ Err (UnknownSubstance (codes "gold"))
  pub rule_2_declare : answer_at desk (declares (codes "ACME") 8
      (material (codes "M1") 9 (holds (codes "lead") 1 ∷ holds (codes "tin") 1 ∷ []) ∷ material (codes "M2") 9 (holds (codes "gold") 1 ∷ []) ∷ []))
      ≡ Err (UnknownSubstance (codes "tin"))
  pub rule_3 : answer_at desk (Line (codes "t9") (codes "PIN") (codes "GLUE") 1) ≡ Err (UnknownMaterial (codes "GLUE"))
  pub rule_4_parent : answer_at desk (Line (codes "t9") (codes "FRAME") (codes "PIN") 1) ≡ Err (UnknownPart (codes "FRAME"))
  pub rule_4_child : answer_at desk (Line (codes "t9") (codes "BOARD") (codes "FRAME") 1) ≡ Err (UnknownPart (codes "FRAME"))
  pub rule_4_unline : answer_at desk (Unline (codes "t9") (codes "FRAME") (codes "PIN")) ≡ Err (UnknownPart (codes "FRAME"))
  pub rule_4_product : answer_at desk (Product (codes "t9") (codes "SOLDER") Telecommunications) ≡ Err (UnknownPart (codes "SOLDER"))
  pub rule_5_ship : answer_at desk (Ship (codes "t9") (codes "PIN") 2024 1) ≡ Err (UnknownProduct (codes "PIN"))
  pub rule_5_unship : answer_at desk (Unship (codes "t9") (codes "PIN") 2024 1) ≡ Err (UnknownProduct (codes "PIN"))
  pub rule_6 : answer_at desk (Unexempt (codes "t9") (codes "R6C")) ≡ Err (UnknownExemption (codes "R6C"))
  pub rule_7_declare : answer_at desk (declares (codes "ACME") 8 (material (codes "BOARD") 9 [] ∷ [])) ≡ Err (NameTaken (codes "BOARD"))
  pub rule_7_part : answer_at desk (article (codes "t9") (codes "SOLDER")) ≡ Err (NameTaken (codes "SOLDER"))
  pub rule_8 : answer_at desk (article (codes "t9") (codes "BOARD")) ≡ Err (KindChanged (codes "BOARD"))
  pub rule_9_article : answer_at desk (Line (codes "t9") (codes "PIN") (codes "CASE") 1) ≡ Err (WrongChild (codes "CASE"))
  pub rule_9_assembly : answer_at desk (Line (codes "t9") (codes "BOARD") (codes "SOLDER") 1) ≡ Err (WrongChild (codes "SOLDER"))
  pub rule_10 : answer_at desk (Unline (codes "t9") (codes "CASE") (codes "PIN")) ≡ Err (NoSuchLine (codes "CASE") (codes "PIN"))
  pub rule_11 : answer_at desk (declares (codes "BOLT") 1 (material (codes "SOLDER") 9 [] ∷ [])) ≡ Err (ForeignMaterial (codes "SOLDER") (codes "ACME"))
  pub rule_12 : answer_at desk (declares (codes "ACME") 6 (material (codes "SOLDER") 9 [] ∷ [])) ≡ Err (StaleDeclaration (codes "SOLDER") 7)
  pub rule_13 : answer_at desk (declares (codes "ACME") 8 (material (codes "SOLDER") 10 (holds (codes "lead") 11 ∷ []) ∷ []))
      ≡ Err (MassesExceed (codes "SOLDER"))
  pub rule_14_days : answer_at desk (exemption (codes "t9") Three (Telecommunications ∷ []) (date 2024 2 1) (date 2024 1 31) None None) ≡ Err ExemptionSpan
  pub rule_14_ppm :
      answer_at desk (exemption (codes "t9") Three (Telecommunications ∷ []) (date 2024 2 1) (date 2024 2 1) (Some 2) (Some 1)) ≡ Err ExemptionSpan
  pub rule_15 : answer_at desk (exemption (codes "t9") Four (Telecommunications ∷ []) (date 2024 2 1) (date 2024 2 1) None None) ≡ Err AnnexKinds
  -- Annex IV is for kinds 8, 8i, 9 and 9i, and a row for one of these and another is refused
  pub rule_15_second : answer_at desk (exemption (codes "t9") Four (MedicalDevice ∷ Other ∷ []) (date 2024 2 1) (date 2024 2 1) None None) ≡ Err AnnexKinds
  pub rule_15_kinds : filter (λ kind. breaks_annex (terms Four (kind ∷ []) (date 2024 2 1) (date 2024 2 1) None None)) all_kinds
      ≡ LargeHousehold ∷ SmallHousehold ∷ Telecommunications ∷ Consumer ∷ Lighting ∷ Tool ∷ ToyLeisureSports ∷ Toy ∷ Dispenser ∷ Other ∷ []
  pub rule_16 : answer_at desk (Unship (codes "t9") (codes "BOARD") 2024 5) ≡ Err (ShipBelowZero 3)
  pub rule_16_no_entry : answer_at desk (Unship (codes "t9") (codes "BOARD") 2023 1) ≡ Err (ShipBelowZero 0)
  pub rule_17 : answer_at desk (Ship (codes "t9") (codes "BOARD") 2024 999999999998) ≡ Err UnitsTooLarge
  -- lines that would close a cycle, of one part and of three
  pub rule_20_itself : answer_at desk (Line (codes "t9") (codes "CASE") (codes "CASE") 1) ≡ Err (ClosesCycle (codes "CASE" ∷ []))
  pub rule_20 : answer_at (desk_after (edits ++ Line (codes "t9") (codes "CASE") (codes "BOARD") 1 ∷ [])) (Line (codes "t10") (codes "BOARD") (codes "CASE") 1)
      ≡ Err (ClosesCycle (codes "CASE" ∷ codes "BOARD" ∷ []))

-- the desk with two materials more, one from another supplier
abbrev pub wider : Lists
wider = desk_after (
    edits
    ++ declares (codes "ACME") 8 (material (codes "RESIN") 9 [] ∷ [])
    ∷ declares (codes "BOLT") 3 (material (codes "ZINC") 9 [] ∷ [])
    ∷ [])

-- the desk without its tickets, as a store might hold it
abbrev pub unticketed : Lists
unticketed = record desk { tickets = [] }

-- of several materials or substances that meet a refusal the first is told
pub record FirstExamples : Type 0 where
  -- in order of material, and then of substance
  pub rule_2 : answer_at desk (declares (codes "ACME") 8 (material (codes "M1") 9 (holds (codes "zinc") 1 ∷ [])
      ∷ material (codes "M2") 9 (holds (codes "gold") 1 ∷ []) ∷ []))
      ≡ Err (UnknownSubstance (codes "zinc"))
  pub rule_7 : answer_at desk (declares (codes "ACME") 8 (material (codes "BOARD") 9 [] ∷ material (codes "PIN") 9 [] ∷ [])) ≡ Err (NameTaken (codes "BOARD"))
  pub rule_11 : answer_at wider (declares (codes "SEAL") 1 (material (codes "SOLDER") 9 [] ∷ material (codes "ZINC") 9 [] ∷ []))
      ≡ Err (ForeignMaterial (codes "SOLDER") (codes "ACME"))
  pub rule_11_second : answer_at wider (declares (codes "ACME") 9 (material (codes "SOLDER") 9 [] ∷ material (codes "ZINC") 9 [] ∷ []))
      ≡ Err (ForeignMaterial (codes "ZINC") (codes "BOLT"))
  pub rule_12 : answer_at wider (declares (codes "ACME") 6 (material (codes "RESIN") 9 [] ∷ material (codes "SOLDER") 9 [] ∷ []))
      ≡ Err (StaleDeclaration (codes "RESIN") 8)
  pub rule_13 : answer_at desk (declares (codes "ACME") 8 (material (codes "M1") 1 (holds (codes "lead") 2 ∷ [])
      ∷ material (codes "M2") 1 (holds (codes "lead") 2 ∷ []) ∷ []))
      ≡ Err (MassesExceed (codes "M1"))

-- the second of these materials has a part's code
abbrev pub half : Edit
half = declares (codes "ACME") 8 (material (codes "FLUX") 9 [] ∷ material (codes "PIN") 9 [] ∷ [])

-- edits that are not refused
pub record AcceptanceExamples : Type 0 where
  pub annex_four : answer_at desk (exemption (codes "t9") Four (MedicalDevice ∷ []) (date 2024 2 1) (date 2024 2 1) (Some 1) (Some 1)) ≡ Ok 9
  pub all_annex_four : answer_at desk (exemption (codes "t9") Four
      (MedicalDevice ∷ InVitroDiagnostic ∷ ControlInstrument ∷ IndustrialInstrument ∷ []) (date 2024 2 1) (date 2024 2 1) None None) ≡ Ok 9
  pub annex_three : answer_at desk (exemption (codes "t9") Three all_kinds (date 2024 1 31) (date 2024 2 1) (Some 1) (Some 2)) ≡ Ok 9
  -- a floor without a cap, and a cap without a floor
  pub floor_alone : answer_at desk (exemption (codes "t9") Three (Consumer ∷ []) (date 2024 2 1) (date 2024 2 1) (Some 1) None) ≡ Ok 9
  pub cap_alone : answer_at desk (exemption (codes "t9") Three (Consumer ∷ []) (date 2024 2 1) (date 2024 2 1) None (Some 1)) ≡ Ok 9
  -- all that is kept may be taken off
  pub all_units : answer_at desk (Unship (codes "t9") (codes "BOARD") 2024 3) ≡ Ok 9
  -- substances may weigh as much as the material
  pub equal_masses : answer_at desk (declares (codes "ACME") 8 (material (codes "SOLDER") 10 (holds (codes "lead") 10 ∷ []) ∷ [])) ≡ Ok 9
  -- a declaration of the kept number isn't stale
  pub equal_number : answer_at unticketed (declares (codes "ACME") 7 (material (codes "SOLDER") 9 [] ∷ [])) ≡ Ok 1
  -- a part may be entered again under another name, and a line and a product again
  pub part_again : answer_at desk (Part (codes "t9") (codes "PIN") Article (codes "Contact pin")) ≡ Ok 9
  pub line_again : answer_at desk (Line (codes "t9") (codes "PIN") (codes "SOLDER") 5) ≡ Ok 9
  pub product_again : answer_at desk (Product (codes "t9") (codes "BOARD") Consumer) ≡ Ok 9
  -- one code may name an edit of a sender's and a declaration, since their tickets differ
  pub like_declaration : answer_at desk (article (codes "ACME") (codes "NUT")) ≡ Ok 9
  pub most_units : answer_at desk (Ship (codes "t9") (codes "BOARD") 2024 999999999997) ≡ Ok 9
  -- a repeated edit has its number and changes nothing, whatever rules it would break now
  pub repeated : answer_at desk (article (codes "t2") (codes "PIN")) ≡ Ok 2
  pub repeated_declaration : answer_at desk (declares (codes "ACME") 7 (material (codes "SOLDER") 1000000 (holds (codes "lead") 1000 ∷ []) ∷ [])) ≡ Ok 1
  pub repeated_shipment : units_of (step desk (Ship (codes "t8") (codes "BOARD") 2024 3)).1 2024 (codes "BOARD") ≡ 3
  -- a declaration whose second material is refused enters none
  pub half_declared : answer_at desk half ≡ Err (NameTaken (codes "PIN"))
  pub none_entered : map (λ row. row.code) (step desk half).1.materials ≡ codes "SOLDER" ∷ []

-- a candidate too many, which no edit mends
abbrev pub crowded : Lists
crowded = record desk { candidates = map (λ n. record { substance = zero_padded 4 n; day = date 2020 1 16 }) (range_with_len 0 1025) }

-- an assembly alone
abbrev pub lone : Lists
lone = record start { substances = []; members = []; parts = record { code = codes "CASE"; sort = Assembly; name = codes "CASE" } ∷ [] }

abbrev pub lone_cycle : Edit
lone_cycle = Line (codes "t9") (codes "CASE") (codes "CASE") 1

-- a ticket of this text
abbrev pub with_text : Lists → List ℕ → Lists
with_text t text = record t { tickets = record { code = codes "E:t1"; number = 1; text = text } ∷ [] }

-- edits under a kept ticket that break other rules too
abbrev pub reused : List Edit
reused =
    Line (codes "t2") (codes "PIN") (codes "GLUE") 1
    ∷ Line (codes "t2") (codes "FRAME") (codes "PIN") 1
    ∷ Ship (codes "t2") (codes "PIN") 2024 1
    ∷ Unexempt (codes "t2") (codes "R6C")
    ∷ article (codes "t2") (codes "SOLDER")
    ∷ Line (codes "t2") (codes "PIN") (codes "CASE") 1
    ∷ Unline (codes "t2") (codes "CASE") (codes "PIN")
    ∷ exemption (codes "t2") Three (Telecommunications ∷ []) (date 2024 2 1) (date 2024 1 31) None None
    ∷ exemption (codes "t2") Four (Telecommunications ∷ []) (date 2024 2 1) (date 2024 2 1) None None
    ∷ Unship (codes "t2") (codes "BOARD") 2024 5
    ∷ Ship (codes "t2") (codes "BOARD") 2024 999999999998
    ∷ []

-- edits that meet two refusals at once
pub record OrderExamples : Type 0 where
  -- 1 before 2
  pub reused_and_unknown : answer_at desk (Member (codes "t2") (codes "gold") Lead 1) ≡ Err TicketReused
  -- and before each other rule of one edit alone
  pub reused_and_others : map (answer_at desk) reused ≡ map (λ edit. Err TicketReused) reused
  -- 2 before 7, though the material with the taken code stands first
  pub unknown_and_taken : answer_at desk (declares (codes "ACME") 8 (material (codes "BOARD") 9 []
      ∷ material (codes "M1") 9 (holds (codes "tin") 1 ∷ []) ∷ [])) ≡ Err (UnknownSubstance (codes "tin"))
  -- 2 before 13
  pub unknown_and_heavy : answer_at desk (declares (codes "ACME") 8 (material (codes "M1") 9 (holds (codes "tin") 10 ∷ []) ∷ []))
      ≡ Err (UnknownSubstance (codes "tin"))
  -- 4 before 10
  pub unknown_and_no_line : answer_at desk (Unline (codes "t9") (codes "FRAME") (codes "GLUE")) ≡ Err (UnknownPart (codes "FRAME"))
  -- 9 before 20
  pub wrong_and_cycle : answer_at desk (Line (codes "t9") (codes "PIN") (codes "BOARD") 1) ≡ Err (WrongChild (codes "BOARD"))
  -- 11 before 12
  pub foreign_and_stale : answer_at desk (declares (codes "BOLT") 6 (material (codes "SOLDER") 9 [] ∷ []))
      ≡ Err (ForeignMaterial (codes "SOLDER") (codes "ACME"))
  -- 14 before 15
  pub span_and_kinds : answer_at desk (exemption (codes "t9") Four (Telecommunications ∷ []) (date 2024 2 1) (date 2024 1 31) None None) ≡ Err ExemptionSpan
  -- 7 before 11, though the foreign material stands first
  pub taken_and_foreign : answer_at wider (declares (codes "SEAL") 1 (material (codes "CASE") 9 [] ∷ material (codes "RESIN") 9 [] ∷ []))
      ≡ Err (NameTaken (codes "CASE"))
  pub foreign_and_taken : answer_at (desk_after (declares (codes "ACME") 7 (material (codes "A") 9 [] ∷ []) ∷ article (codes "t2") (codes "B") ∷ []))
      (declares (codes "BOLT") 1 (material (codes "A") 9 [] ∷ material (codes "B") 9 [] ∷ []))
      ≡ Err (NameTaken (codes "B"))
  -- 11 before 12, though the stale material stands first
  pub stale_and_foreign : answer_at wider (declares (codes "ACME") 6 (material (codes "SOLDER") 9 [] ∷ material (codes "ZINC") 9 [] ∷ []))
      ≡ Err (ForeignMaterial (codes "ZINC") (codes "BOLT"))
  -- 12 before 13
  pub stale_and_heavy : answer_at desk (declares (codes "ACME") 6 (material (codes "SOLDER") 9 (holds (codes "lead") 10 ∷ []) ∷ []))
      ≡ Err (StaleDeclaration (codes "SOLDER") 7)
  -- each of the rules of one edit alone before 18
  pub no_material_and_full : answer_at crowded (Line (codes "t9") (codes "PIN") (codes "GLUE") 1) ≡ Err (UnknownMaterial (codes "GLUE"))
  pub no_product_and_full : answer_at crowded (Ship (codes "t9") (codes "PIN") 2024 1) ≡ Err (UnknownProduct (codes "PIN"))
  pub wrong_and_full : answer_at crowded (Line (codes "t9") (codes "PIN") (codes "CASE") 1) ≡ Err (WrongChild (codes "CASE"))
  pub unknown_and_full : answer_at crowded (Unexempt (codes "t9") (codes "R6C")) ≡ Err (UnknownExemption (codes "R6C"))
  pub changed_and_full : answer_at crowded (article (codes "t9") (codes "BOARD")) ≡ Err (KindChanged (codes "BOARD"))
  pub no_line_and_full : answer_at crowded (Unline (codes "t9") (codes "CASE") (codes "PIN")) ≡ Err (NoSuchLine (codes "CASE") (codes "PIN"))
  pub heavy_and_full : answer_at crowded (declares (codes "ACME") 8 (material (codes "SOLDER") 9 (holds (codes "lead") 10 ∷ []) ∷ []))
      ≡ Err (MassesExceed (codes "SOLDER"))
  pub kinds_and_full : answer_at crowded (exemption (codes "t9") Four (Telecommunications ∷ []) (date 2024 2 1) (date 2024 2 1) None None) ≡ Err AnnexKinds
  pub below_and_full : answer_at crowded (Unship (codes "t9") (codes "BOARD") 2024 5) ≡ Err (ShipBelowZero 3)
  pub large_and_full : answer_at crowded (Ship (codes "t9") (codes "BOARD") 2024 999999999998) ≡ Err UnitsTooLarge
  -- 18 before 19, whatever the texts are, and 19 before 20
  pub full_and_texts : (text : List ℕ) → answer_at (with_text crowded text) (Line (codes "t9") (codes "CASE") (codes "CASE") 1) ≡ Err (TableFull 8)
  pub texts_and_cycle : (text : List ℕ) → length text ≡ 67108864 → answer_at (with_text lone text) lone_cycle ≡ Err TextFull
  -- 20 before 21: a cycle of 10^6 of each part would be too heavy
  pub cycle_and_heavy : answer_at tower (Line (codes "t17") (codes "L1") (codes "L6") 1000000)
      ≡ Err (ClosesCycle (codes "L6" ∷ codes "L5" ∷ codes "L4" ∷ codes "L3" ∷ codes "L2" ∷ codes "L1" ∷ []))
  -- 21 before 22 and 23, and 22 before 23
  pub heavy_and_others : (t : Lists) (edit : Edit) (fault : RuleFault) → closes_cycle t edit ≡ None → total_too_large t edit ≡ Some fault →
      refused_by_bill t edit ≡ Some fault
  pub findings_and_year : (t : Lists) (edit : Edit) → closes_cycle t edit ≡ None → total_too_large t edit ≡ None →
      findings_full t edit ≡ Some FindingsFull → refused_by_bill t edit ≡ Some FindingsFull
